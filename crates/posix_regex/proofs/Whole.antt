-- The expression of a whole pattern, and how many items it has.
use Rattle.std.proofs.Common.{◌≡◌, ℕ, zero, suc, ◌+◌, ◌*◌, ◌<◌, ◌≤◌, max, Bool, true, false, List, [], ◌∷◌, ◌++◌, length, Some, None, Ok, Err, Result, IsOkAnd, IfOk, refl, ap, arith, length-append, nat_lt}
use Rattle.std.proofs.Math.Nat.{suc-mul, mul-le-mul_left}
use Rattle.std.proofs.lemmas.Bool.Decides.{nat_tests}
use Rattle.posix_regex.specs.declared.fault.RegexCause.TheVariants.{TooBig}
use Rattle.posix_regex.specs.declared.fault.RegexFault.{RegexFault}
use Rattle.posix_regex.specs.Bracket.{on_ok}
use Rattle.posix_regex.specs.Expression.{Expression, OneOf, Start, End, Empty, Then, Or, Repeat, size}
use Rattle.posix_regex.specs.Program.{Item, Back, Skip, items_of, copies, optional, again, at_least, between, either}
use Rattle.posix_regex.specs.Fragment.{IsSized}
use Rattle.posix_regex.specs.Pattern.{nothing_read, read_from, small_enough, expression_at}

length-copies : (count : ℕ) (xs : List Item) → length (copies count xs) ≡ count * length xs
length-copies zero xs = omega arith
length-copies (suc count) xs = omega (arith, length-append xs (copies count xs), length-copies count xs, suc-mul count (length xs))

length-again : (xs : List Item) → length (again xs) ≡ length xs + 1
length-again xs = omega (arith, length-append xs (Back (length xs) ∷ []))

length-at_least : (least : ℕ) (xs : List Item) (s : ℕ) → length xs ≤ 2 * s → length (at_least least xs) ≤ 2 * (max least 1 * (s + 1) + 1)
length-at_least zero xs s h = omega (arith, length-again xs)
length-at_least (suc least) xs s h =
    let m : max (suc least) 1 ≡ suc least = omega arith in
    rw m (omega (arith, length-append (copies least xs) (again xs), length-copies least xs, length-again xs, mul-le-mul_left least h, suc-mul least (s + 1)))

length-between : (least more : ℕ) (xs : List Item) (s : ℕ) → length xs ≤ 2 * s → length (between least more xs) ≤ 2 * ((least + more) * (s + 1))
length-between least more xs s h =
    omega (arith, length-append (copies least xs) (copies more (optional xs)), length-copies least xs, length-copies more (optional xs), mul-le-mul_left least h, mul-le-mul_left more h)

length-either : (xs ys : List Item) → length (either xs ys) ≡ length xs + length ys + 2
length-either xs ys = omega (arith, length-append (optional (xs ++ Skip (length ys + 1) ∷ [])) ys, length-append xs (Skip (length ys + 1) ∷ []))

-- an expression has at most two items for each part of its size
pub length-items_of : (e : Expression) → length (items_of e) ≤ 2 * size e
unfolding items_of size
length-items_of (OneOf bytes) = omega arith
length-items_of Start = omega arith
length-items_of End = omega arith
length-items_of Empty = omega arith
length-items_of (Then a b) = omega (arith, length-append (items_of a) (items_of b), length-items_of a, length-items_of b)
length-items_of (Or a b) = omega (arith, length-either (items_of a) (items_of b), length-items_of a, length-items_of b)
length-items_of (Repeat a least None) = length-at_least least (items_of a) (size a) (length-items_of a)
length-items_of (Repeat a least (Some more)) = length-between least more (items_of a) (size a) (length-items_of a)

small_enough-big : (s : ℕ) (row : List Item) (e : Expression) → IsSized s row e → 4096 < s → small_enough e ≡ Err (record { place = 0; cause = TooBig })
small_enough-big s row e h big =
    let t : nat_lt 4096 (size e) ≡ true = grind (arith, nat_tests, h.cut_size) in
    rw t refl

small_enough-small : (s : ℕ) (row : List Item) (e : Expression) → IsSized s row e → s ≤ 4096 → small_enough e ≡ Ok e
small_enough-small s row e h small =
    let t : nat_lt 4096 (size e) ≡ false = grind (arith, nat_tests, h.cut_size) in
    rw t refl

module _ (extended fold : Bool) (pattern : List ℕ) where
  whole : Result Expression RegexFault
  whole = read_from extended fold 0 0 pattern true true nothing_read

  pub expression_at-fault : (fault : RegexFault) → read_from extended fold 0 0 pattern true true nothing_read ≡ Err fault → expression_at extended fold pattern ≡ Err fault
  unfolding expression_at
  expression_at-fault fault e = ap (λ r. on_ok r small_enough) e

  pub expression_at-big : (s : ℕ) (row : List Item) → 4096 < s → IsOkAnd (read_from extended fold 0 0 pattern true true nothing_read) (λ e. IsSized s row e) → expression_at extended fold pattern ≡ Err (record { place = 0; cause = TooBig })
  unfolding expression_at
  expression_at-big s row big h = go (read_from extended fold 0 0 pattern true true nothing_read) h where
    go : (r : Result Expression RegexFault) → IsOkAnd r (λ e. IsSized s row e) → on_ok r small_enough ≡ Err (record { place = 0; cause = TooBig })
    go (Ok e) k = small_enough-big s row e k big
    go (Err f) k = absurd k

  pub expression_at-some : (s : ℕ) (row : List Item) → s ≤ 4096 → IsOkAnd (read_from extended fold 0 0 pattern true true nothing_read) (λ e. IsSized s row e) → IsOkAnd (expression_at extended fold pattern) (λ e. row ≡ items_of e)
  unfolding expression_at
  expression_at-some s row small h = go (read_from extended fold 0 0 pattern true true nothing_read) h where
    go : (r : Result Expression RegexFault) → IsOkAnd r (λ e. IsSized s row e) → IsOkAnd (on_ok r small_enough) (λ e. row ≡ items_of e)
    go (Ok e) k = rw (small_enough-small s row e k small) (k.written (omega (arith, k.cut_size)))
    go (Err f) k = absurd k

-- the bound for what was read
pub few_items : (r : Result Expression RegexFault) (row : List Item) → IsOkAnd r (λ e. row ≡ items_of e) → IfOk r (λ e. length row ≤ 2 * size e)
few_items (Ok e) row h = rw h (length-items_of e)
few_items (Err f) row h = absurd h
