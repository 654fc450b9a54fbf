-- Path order and names.
use Rattle.std.proofs.Common.{◌≡◌, ◌≢◌, ℕ, ◌+◌, ◌<◌, Bool, true, false, ◌==◌, ◌||◌, List, [], ◌∷◌, ◌++◌, refl, sym, ◌∙◌, ap, arith, Ordering, Less, Equal, Greater, nat_cmp, true≢false, is_lt, is_gt}
use Rattle.std.proofs.lemmas.Bool.Decides.{nat_tests}
use Rattle.std.proofs.lemmas.Cmp.{nat_cmp_total, tied_itself}
use Rattle.std.specs.Ordering.{ordering_then}
use Rattle.std.specs.Cmp.{nat_cmp_is}
use Rattle.std.specs.Cmp.Lexicographic.{slice_cmp}
use Rattle.std.specs.FinMap.{nat_cmp-IsAntisymmetric}
use Rattle.std.specs.List.{list_any}
use Rattle.path_order.specs.Order.{rank, path_cmp}
pub use Rattle.path_order.proofs.OrderLemmas.{path_total, path_same}

abbrev pub Before : List ℕ → List ℕ → Type 0
Before a b = path_cmp a b ≡ Less

pub before_trans : (a b c : List ℕ) → Before a b → Before b c → Before a c
before_trans a b c h k = path_total.trans a b c h k

then_equal : (r o : Ordering) → r ≡ Equal → ordering_then r o ≡ o
then_equal r o e = ap (λ (q : Ordering). ordering_then q o) e

then_less : (r o : Ordering) → r ≡ Less → ordering_then r o ≡ Less
then_less r o e = ap (λ (q : Ordering). ordering_then q o) e

-- a front that both have
pub same_front : (front a b : List ℕ) → path_cmp (front ++ a) (front ++ b) ≡ path_cmp a b
same_front [] a b = refl
same_front (x ∷ front) a b = then_equal (nat_cmp (rank x) (rank x)) _ (tied_itself nat_cmp_total (rank x)) ∙ same_front front a b

-- a text comes before each that goes on from it
pub before_longer : (a : List ℕ) (x : ℕ) (b : List ℕ) → Before a (a ++ x ∷ b)
before_longer [] x b = refl
before_longer (y ∷ a) x b = then_equal (nat_cmp (rank y) (rank y)) _ (tied_itself nat_cmp_total (rank y)) ∙ before_longer a x b

-- nothing, or a slash first
abbrev pub IsTail : List ℕ → Type 0
IsTail [] = Unit {0}
IsTail (b ∷ rest) = b ≡ 47

abbrev pub NoSlash : List ℕ → Type 0
NoSlash name = list_any (λ b. b == 47) name ≡ false

no_first : (x : ℕ) (xs : List ℕ) → NoSlash (x ∷ xs) → x ≢ 47
no_first x xs h e = grind (arith, nat_tests, h, e)

no_rest : (x : ℕ) (xs : List ℕ) → NoSlash (x ∷ xs) → NoSlash xs
no_rest x xs h = right (x == 47) _ h
  where
    right : (a b : Bool) → (a || b) ≡ false → b ≡ false
    right true b e = absurd (true≢false e)
    right false b e = e

rank_slash : (b : ℕ) → b ≡ 47 → rank b ≡ 0
rank_slash b e = grind (arith, nat_tests)

rank_other : (x : ℕ) → x ≢ 47 → rank x ≡ x + 1
rank_other x n = grind (arith, nat_tests)

less_rank : (x y : ℕ) → nat_cmp x y ≡ Less → x < y
less_rank x y e = grind (arith, nat_tests)

then_cases : (x y : ℕ) (o : Ordering) → ordering_then (nat_cmp x y) o ≡ Less → (Goal : Type 0) → (x < y → Goal) → (x ≡ y → o ≡ Less → Goal) → Goal
then_cases x y o e Goal less same =
    elim (nat_cmp x y) as (λ r. nat_cmp x y ≡ r → ordering_then r o ≡ Less → Goal) [
      | Less ↦ λ is h. less (less_rank x y is)
      | Equal ↦ λ is h. same (nat_cmp-IsAntisymmetric x y is) h
      | Greater ↦ λ is h. absurd (true≢false (ap is_gt h))
    ] refl e

less_cmp : (x y : ℕ) → x < y → nat_cmp x y ≡ Less
less_cmp x y h = sym (nat_cmp_is x y Less h)

-- a name before another: so are all paths under the two
pub before_sibling : (m n s t : List ℕ) → NoSlash m → NoSlash n → slice_cmp nat_cmp m n ≡ Less → IsTail s → Before (m ++ s) (n ++ t)
before_sibling [] [] s t p q h tail = absurd (true≢false (sym (ap is_lt h)))
before_sibling [] (y ∷ n) [] t p q h tail = refl
before_sibling [] (y ∷ n) (b ∷ s) t p q h tail =
    then_less (nat_cmp (rank b) (rank y)) _ (less_cmp (rank b) (rank y) (omega (arith, rank_slash b tail, rank_other y (no_first y n q))))
before_sibling (x ∷ m) [] s t p q h tail = absurd (true≢false (sym (ap is_lt h)))
before_sibling (x ∷ m) (y ∷ n) s t p q h tail =
    then_cases x y _ h _ (λ less. then_less (nat_cmp (rank x) (rank y)) _ (less_cmp (rank x) (rank y) (omega (arith, less, rank_other x (no_first x m p), rank_other y (no_first y n q)))))
    (λ same rest. then_equal (nat_cmp (rank x) (rank y)) _ (ap (λ (z : ℕ). nat_cmp (rank x) (rank z)) (sym same) ∙ tied_itself nat_cmp_total (rank x))
    ∙ before_sibling m n s t (no_rest x m p) (no_rest y n q) rest tail)
