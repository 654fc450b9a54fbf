-- The first place at which a test passes.
use Rattle.std.proofs.Common.{◌≡◌, ℕ, ◌<◌, ◌≤◌, Bool, true, false, cond, List, length, refl, arith, Some, None, unwrap_or, ltb}
use Rattle.std.specs.List.{position, position_or_len}
use Rattle.std.proofs.lemmas.List.Sums.{prefix_len-le-length}
use borrow.Author.Tests.{ltb-true, ltb-false}

pub position_or_len_within : (p : ℕ → Bool) (xs : List ℕ) → position_or_len p xs ≤ length xs
position_or_len_within p xs = prefix_len-le-length _ xs

-- the place that was found
pub position_is : (p : ℕ → Bool) (xs : List ℕ) (i : ℕ) → position p xs ≡ Some i → position_or_len p xs ≡ i
position_is p xs i h =
    elim (ltb (position_or_len p xs) (length xs)) as (λ b. cond b (Some (position_or_len p xs)) None ≡ Some i → position_or_len p xs ≡ i) [
      | true ↦ λ e. cc
      | false ↦ λ e. cc
    ] h

pub position_within : (p : ℕ → Bool) (xs : List ℕ) (i : ℕ) → position p xs ≡ Some i → i < length xs
position_within p xs i h =
    elim (ltb (position_or_len p xs) (length xs)) as (λ b. ltb (position_or_len p xs) (length xs) ≡ b → cond b (Some (position_or_len p xs)) None ≡ Some i → i < length xs) [
      | true ↦ λ t e. let same : position_or_len p xs ≡ i = cc in omega (arith, ltb-true _ _ t)
      | false ↦ λ t e. absurd (cc)
    ] refl h

or_length : (n m : ℕ) → n ≤ m → unwrap_or (cond (ltb n m) (Some n) None) m ≡ n
or_length n m h =
    elim (ltb n m) as (λ b. ltb n m ≡ b → unwrap_or (cond b (Some n) None) m ≡ n) [
      | true ↦ λ e. refl
      | false ↦ λ e. let far : m ≤ n = ltb-false n m e in omega arith
    ] refl

-- the place, or the length
pub place_or_length : (p : ℕ → Bool) (xs : List ℕ) → unwrap_or (position p xs) (length xs) ≡ position_or_len p xs
place_or_length p xs = or_length _ _ (position_or_len_within p xs)
