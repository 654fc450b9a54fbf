-- The first place at which a test passes, if there is one.
use Rattle.std.proofs.Common.{◌≡◌, ℕ, ◌<◌, List, length, Bool, true, false, cond, Some, None, sym, refl, arith}
use Rattle.std.proofs.lemmas.Bool.{ltb-true, ltb-false}
use Rattle.std.proofs.lemmas.List.Sums.{prefix_len-le-length}
use Rattle.std.proofs.lemmas.Option.{cond_some}
use Rattle.std.specs.List.{position, position_or_len}
use Rattle.std.specs.Prelude.{unwrap_or, not}

none_is : (b : Bool) (n : ℕ) → cond b (Some n) None ≡ None → b ≡ false
none_is true n e = cc
none_is false n e = refl

or_is : (b : Bool) (n m : ℕ) → (b ≡ false → n ≡ m) → unwrap_or (cond b (Some n) None) m ≡ n
or_is true n m h = refl
or_is false n m h = sym (h refl)

-- where it passes nowhere
pub position_none : {X : Type 0} (p : X → Bool) (xs : List X) → position p xs ≡ None → position_or_len p xs ≡ length xs
position_none p xs e =
    let most = prefix_len-le-length (λ x. not (p x)) xs in
    let past = ltb-false (position_or_len p xs) (length xs) (none_is _ _ e) in
    omega arith

-- where it passes first at a place
pub position_some : {X : Type 0} (p : X → Bool) (xs : List X) (k : ℕ) → position p xs ≡ Some k → (position_or_len p xs ≡ k) × (k < length xs)
position_some p xs k e =
    let is = cond_some _ _ _ e in
    let before = ltb-true (position_or_len p xs) (length xs) is.0 in
    (is.1, omega (arith, is.1))

-- the place, or else the length
pub position_or : {X : Type 0} (p : X → Bool) (xs : List X) → unwrap_or (position p xs) (length xs) ≡ position_or_len p xs
position_or p xs =
    let most = prefix_len-le-length (λ x. not (p x)) xs in
    or_is _ _ _ (λ e. let past = ltb-false (position_or_len p xs) (length xs) e in omega arith)
