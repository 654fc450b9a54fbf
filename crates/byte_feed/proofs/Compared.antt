-- Bytes that are compared while they are read.
use Rattle.std.proofs.Common.{◌≡◌, ℕ, ◌+◌, ◌<◌, ◌↔◌, Bool, true, false, List, [], ◌∷◌, ◌++◌, length, take, drop, Option, Some, None, Ok, Err, refl, sym, ap, ◌∙◌, append-nil, add-one, arith}
use Rattle.std.specs.Prelude.{nat_eq, ◌&&◌}
use Rattle.std.specs.List.{starts_with}
use Rattle.std.proofs.lemmas.Bool.{lt-ltb, eqb-true, eq-eqb}
use Rattle.std.proofs.lemmas.List.{take-take, take_at, drop_at, drop-take}
use Rattle.std.proofs.Math.Seq.{take-add}
use Rattle.byte_feed.specs.declared.damage.DamageCause.TheVariants.{Cut}
use Rattle.byte_feed.specs.declared.damage.Stop.TheVariants.{Broken}
use Rattle.byte_feed.specs.declared.damage.Break.{Break}
use Rattle.byte_feed.specs.Field.{bytes_at}
use Rattle.byte_feed.specs.Feed.{FeedState, TookKnown}
use Rattle.byte_feed.specs.Stream.{StreamGives, MatchesKnown, SkipsKnown}

-- a text and a piece behind it are expected just where each of them is
pub same_more : (text piece expected : List ℕ) (done : ℕ) → length text ≡ done
    → (text ++ piece ≡ take (done + length piece) expected) ↔ ((text ≡ take done expected) × (take (length piece) (drop done expected) ≡ piece))
same_more text piece expected done len = (
  λ whole. (
    sym (take_at text piece done len) ∙ ap (take done) whole ∙ take-take done (done + length piece) expected (omega arith),
    sym (sym (drop_at text piece done len) ∙ ap (drop done) whole ∙ drop-take done (length piece) expected),
  ),
  λ parts. ap (λ (l : List ℕ). l ++ piece) parts.0 ∙ ap (λ (l : List ℕ). take done expected ++ l) (sym parts.1) ∙ sym (take-add done (length piece) expected),
)

-- one byte and a piece more
pub same_on : (text piece expected : List ℕ) (b done len : ℕ) (same same' : Bool) → length text ≡ done → length piece ≡ len
    → ((same ≡ true) ↔ (text ≡ take done expected))
    → ((same' ≡ true) ↔ ((same ≡ true) × (take (length piece + 1) (drop done expected) ≡ b ∷ piece)))
    → ((same' ≡ true) ↔ (text ++ b ∷ piece ≡ take (done + (len + 1)) expected))
same_on text piece expected b done len same same' text_len piece_len so_far now =
    let both = same_more text (b ∷ piece) expected done text_len in
    let next : length piece + 1 ≡ length (b ∷ piece) = omega arith in
    let all : len + 1 ≡ length (b ∷ piece) = omega (arith, piece_len) in (
      λ e.
          let parts = now.0 e in
          both.1 (so_far.0 parts.0, ap (λ (n : ℕ). take n (drop done expected)) (sym next) ∙ parts.1) ∙ ap (λ (n : ℕ). take (done + n) expected) (sym all),
      λ e.
          let parts = both.0 (e ∙ ap (λ (n : ℕ). take (done + n) expected) all) in
          now.1 (so_far.1 parts.0, ap (λ (n : ℕ). take n (drop done expected)) next ∙ parts.1),
    )

and_right : (a b : Bool) → (a && b) ≡ true → b ≡ true
and_right true b e = e
and_right false b e = absurd cc

and_left : (a b : Bool) → (a && b) ≡ true → a ≡ true
and_left true b e = refl
and_left false b e = absurd cc

starts_take : (piece bytes : List ℕ) → starts_with nat_eq bytes piece ≡ true → take (length piece) bytes ≡ piece
starts_take [] bytes e = refl
starts_take (y ∷ ys) [] e = absurd cc
starts_take (y ∷ ys) (x ∷ xs) e =
    let same : x ≡ y = grind (arith, eqb-true, and_left) in
    ap (λ (b : ℕ). b ∷ take (length ys) xs) same ∙ ap (λ (l : List ℕ). y ∷ l) (starts_take ys xs (and_right _ _ e))

take_starts : (piece bytes : List ℕ) → take (length piece) bytes ≡ piece → starts_with nat_eq bytes piece ≡ true
take_starts [] bytes e = refl
take_starts (y ∷ ys) [] e = absurd cc
take_starts (y ∷ ys) (x ∷ xs) e =
    let same : x ≡ y = cc in
    let rest : take (length ys) xs ≡ ys = cc in
    rw (same, eq-eqb y y refl) (take_starts ys xs rest)

-- a byte that is expected, and the piece behind it
pub begins_by : (bytes others piece : List ℕ) (byte first : ℕ) (r : Bool) → bytes ≡ first ∷ others → first ≡ byte → r ≡ starts_with nat_eq others piece
    → ((r ≡ true) ↔ (take (length piece + 1) bytes ≡ byte ∷ piece))
begins_by bytes others piece byte first r is same said =
    let parts : take (length piece + 1) bytes ≡ byte ∷ take (length piece) others = rw (is, same, add-one) refl in (
      λ e. parts ∙ ap (λ (l : List ℕ). byte ∷ l) (starts_take piece others (sym said ∙ e)),
      λ e. said ∙ take_starts piece others (let whole : byte ∷ take (length piece) others ≡ byte ∷ piece = sym parts ∙ e in cc),
    )

-- all bytes that are counted were read
pub matched : (count : ℕ) (expected text : List ℕ) (f f' : FeedState) (l l' : Option (List ℕ)) (same : Bool) → TookKnown f l f' l' text → length text ≡ count → ((same ≡ true) ↔ (text ≡ expected)) → MatchesKnown count expected f l f' l' (Ok same)
matched count expected text f f' None l' same t len is = tt
matched count expected text f f' (Some a) None same t len is = absurd t
matched count expected text f f' (Some a) (Some b) same t len is = record { text = text; took = t; len = len; is_same = is }

pub short_of : (count : ℕ) (text : List ℕ) → length text < count → bytes_at count (text ++ []) ≡ Err (Broken Cut)
short_of count text lt = rw (append-nil text, lt-ltb (length text) count lt) refl

pub matches_cut : {X : Type 0} (count : ℕ) (expected : List ℕ) (u : X → List ℕ) (f f' : FeedState) (l l' : Option (List ℕ)) (e : Break) → StreamGives u (bytes_at count) f l f' l' (Err e) → MatchesKnown count expected f l f' l' (Err e)
unfolding StreamGives
matches_cut count expected u f f' None l' e p = tt
matches_cut count expected u f f' (Some a) None e p = absurd p
matches_cut count expected u f f' (Some a) (Some b) e p = p

pub skipped : (count : ℕ) (expected : List ℕ) (f f' : FeedState) (l l' : Option (List ℕ)) (same : Bool) (u : Unit {0}) → MatchesKnown count expected f l f' l' (Ok same) → SkipsKnown count f l f' l' (Ok u)
skipped count expected f f' None l' same u p = tt
skipped count expected f f' (Some a) None same u p = absurd p
skipped count expected f f' (Some a) (Some b) same u p = record { text = p.text; took = p.took; len = p.len }

pub skip_cut : (count : ℕ) (expected : List ℕ) (f f' : FeedState) (l l' : Option (List ℕ)) (e : Break) → MatchesKnown count expected f l f' l' (Err e) → SkipsKnown count f l f' l' (Err e)
skip_cut count expected f f' None l' e p = tt
skip_cut count expected f f' (Some a) None e p = absurd p
skip_cut count expected f f' (Some a) (Some b) e p = p
