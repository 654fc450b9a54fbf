-- The bytes of a buffer from one place up to another.
use Rattle.std.proofs.Common.{◌≡◌, ℕ, ◌+◌, ◌-◌, ◌<◌, ◌≤◌, List, ◌∷◌, length, take, drop, get_or, sym, ap, ◌∙◌, length-take, length-drop, arith}
use Rattle.std.proofs.lemmas.List.{drop-drop, drop_more, get_or-take, take-take}
use Rattle.byte_feed.specs.Feed.{FeedState}

pub held_len : (buffer : List ℕ) (at end : ℕ) → end ≤ length buffer → length (drop at (take end buffer)) ≡ end - at
held_len buffer at end within = omega (arith, length-drop at (take end buffer), length-take end buffer)

pub held_first : (buffer : List ℕ) (at end : ℕ) → at < end → end ≤ length buffer → drop at (take end buffer) ≡ get_or buffer at 0 ∷ drop (at + 1) (take end buffer)
held_first buffer at end lt within =
    drop_more (take end buffer) at 0 (omega (arith, length-take end buffer))
    ∙ ap (λ (b : ℕ). b ∷ drop (at + 1) (take end buffer)) (get_or-take end buffer at 0 lt)

pub held_more : (buffer : List ℕ) (at end count : ℕ) → drop (at + count) (take end buffer) ≡ drop count (drop at (take end buffer))
held_more buffer at end count = sym (drop-drop count at (take end buffer))

pub same_state : (f f' : FeedState) → f'.offset ≡ f.offset → f'.held ≡ f.held → f'.ended ≡ f.ended → f' ≡ f
same_state f f' o h e = λ i. record { offset = o i; held = h i; ended = e i }

-- a first part of a first part
pub begins_then : (a b c : List ℕ) → take (length a) b ≡ a → take (length b) c ≡ b → take (length a) c ≡ a
begins_then a b c p q =
    let less : length a ≤ length b = omega (arith, ap length p, length-take (length a) b) in
    sym (take-take (length a) (length b) c less) ∙ ap (take (length a)) q ∙ p
