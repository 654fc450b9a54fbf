-- A text that is held whole.
use Rattle.std.proofs.Common.{◌≡◌, ℕ, ◌+◌, ◌<◌, List, [], ◌∷◌, ◌++◌, length, take, drop, get_or, All, Some, sym, ap, ◌∙◌, append_assoc, arith}
use Rattle.memchr.specs.Find.{IsFirstByte, is_byte}
use Rattle.std.proofs.lemmas.Bool.{eqb-true, eq-eqb}
use Rattle.std.proofs.lemmas.List.{take-append-drop, drop_more, get_or-take, length-take}
use Rattle.std.proofs.lemmas.List.Elements.{All-from_get_or}
use Rattle.byte_feed.specs.Field.{ended}

pub text_parts : (held : List ℕ) (n : ℕ) → IsFirstByte (is_byte 0) held (Some n) → held ≡ ended (take n held) ++ drop (n + 1) held
text_parts held n first =
    let zero : get_or held n 0 ≡ 0 = eqb-true _ _ first.1 in
    sym (take-append-drop n held)
    ∙ ap (λ (l : List ℕ). take n held ++ l) (drop_more held n 0 first.0.high ∙ ap (λ (b : ℕ). b ∷ drop (n + 1) held) zero)
    ∙ sym (append_assoc (take n held) (0 ∷ []) (drop (n + 1) held))

pub text_plain : (held : List ℕ) (n : ℕ) → IsFirstByte (is_byte 0) held (Some n) → All (λ b. 0 < b) (take n held)
text_plain held n first = All-from_get_or (λ b. 0 < b) (take n held) 0 (λ i lt.
    let below : i < n = omega (arith, lt, length-take n held) in
    let some : get_or held i 0 ≡ 0 → ⊥ = λ z. first.0.before i (omega arith) below (eq-eqb _ _ z) in
    rw (get_or-take n held i 0 below) (omega arith))

pub text_len_is : (held : List ℕ) (n : ℕ) → IsFirstByte (is_byte 0) held (Some n) → length (take n held) ≡ n
text_len_is held n first = omega (arith, length-take n held, first.0.high)
