-- The order of paths, step by step.
use Rattle.std.proofs.Common.{◌≡◌, ◌≢◌, ℕ, ◌+◌, ◌<◌, min, List, [], ◌∷◌, map, length, get_or, drop, refl, sym, ◌∙◌, ap, arith, add-one, drop-cons, length-drop}
use Rattle.std.proofs.lemmas.Bool.Decides.{nat_tests}
use Rattle.std.proofs.lemmas.Cmp.{nat_cmp_total, nat_list_cmp_total, tied_itself}
use Rattle.std.specs.declared.cmp.Ordering.{Ordering}
use Rattle.std.specs.declared.cmp.Ordering.TheVariants.{Less, Equal, Greater}
use Rattle.std.specs.Ordering.{nat_cmp, ordering_then}
use Rattle.std.specs.Cmp.{IsTotalOrder, nat_cmp_is, on_total}
use Rattle.std.specs.FinMap.{IsAntisymmetric, nat_cmp-IsAntisymmetric, slice_cmp-IsAntisymmetric}
use Rattle.path_order.specs.Order.{rank, path_cmp}

-- ranks tell bytes apart
pub rank-injective : (x y : ℕ) → rank x ≡ rank y → x ≡ y
rank-injective x y e = grind (arith, nat_tests)

same_ranks : (xs ys : List ℕ) → map rank xs ≡ map rank ys → xs ≡ ys
same_ranks [] [] e = refl
same_ranks [] (y ∷ ys) e = cc
same_ranks (x ∷ xs) [] e = cc
same_ranks (x ∷ xs) (y ∷ ys) e =
    let first : rank x ≡ rank y = cc in
    let others : map rank xs ≡ map rank ys = cc in
    λ i. rank-injective x y first i ∷ same_ranks xs ys others i

-- path order is total
pub path_total : IsTotalOrder path_cmp
path_total = on_total (map rank) nat_list_cmp_total

-- equal texts tie
pub path_cmp_refl : (a b : List ℕ) → a ≡ b → path_cmp a b ≡ Equal
path_cmp_refl a b e = ap (λ (l : List ℕ). path_cmp a l) (sym e) ∙ tied_itself nat_list_cmp_total (map rank a)

-- only equal texts tie
pub path_same : IsAntisymmetric path_cmp
path_same a b e = same_ranks a b (slice_cmp-IsAntisymmetric nat_cmp-IsAntisymmetric _ _ e)

-- a text from one of its places on
at : (i : ℕ) (s : List ℕ) → i < length s → drop i s ≡ get_or s i 0 ∷ drop (i + 1) s
at i s h = drop-cons s i 0 h ∙ ap (λ (n : ℕ). get_or s i 0 ∷ drop n s) (sym (add-one i))

then_equal : (r o : Ordering) → r ≡ Equal → ordering_then r o ≡ o
then_equal r o e = ap (λ (q : Ordering). ordering_then q o) e

then_other : (r o : Ordering) → r ≢ Equal → ordering_then r o ≡ r
then_other Less o ne = refl
then_other Equal o ne = absurd (ne refl)
then_other Greater o ne = refl

-- equal bytes decide nothing
pub at_same : (a b : List ℕ) (i : ℕ) → i < length a → i < length b → get_or a i 0 ≡ get_or b i 0 → path_cmp (drop i a) (drop i b) ≡ path_cmp (drop (i + 1) a) (drop (i + 1) b)
at_same a b i in_a in_b same =
    (λ j. path_cmp (at i a in_a j) (at i b in_b j))
    ∙ then_equal (nat_cmp (rank (get_or a i 0)) (rank (get_or b i 0))) _ (ap (λ (x : ℕ). nat_cmp (rank (get_or a i 0)) (rank x)) (sym same) ∙ tied_itself nat_cmp_total (rank (get_or a i 0)))

-- the first two bytes that differ decide
pub at_other : (a b : List ℕ) (i : ℕ) → i < length a → i < length b → get_or a i 0 ≢ get_or b i 0 → path_cmp (drop i a) (drop i b) ≡ nat_cmp (rank (get_or a i 0)) (rank (get_or b i 0))
at_other a b i in_a in_b other =
    (λ j. path_cmp (at i a in_a j) (at i b in_b j))
    ∙ then_other (nat_cmp (rank (get_or a i 0)) (rank (get_or b i 0))) _ (λ e. other (rank-injective _ _ (nat_cmp-IsAntisymmetric _ _ e)))

-- where one of two texts is empty, what is left of both lengths decides
shorter : (xs ys : List ℕ) (m n k : ℕ) → length xs + k ≡ m → length ys + k ≡ n → min (length xs) (length ys) ≡ 0 → path_cmp xs ys ≡ nat_cmp m n
shorter [] [] m n k is_m is_n none = nat_cmp_is m n Equal (omega arith)
shorter [] (y ∷ ys) m n k is_m is_n none = nat_cmp_is m n Less (omega arith)
shorter (x ∷ xs) [] m n k is_m is_n none = nat_cmp_is m n Greater (omega arith)
shorter (x ∷ xs) (y ∷ ys) m n k is_m is_n none = absurd (omega arith)

-- where one text ends, the lengths decide
pub at_end : (a b : List ℕ) (i : ℕ) → i ≡ min (length a) (length b) → path_cmp (drop i a) (drop i b) ≡ nat_cmp (length a) (length b)
at_end a b i is = shorter (drop i a) (drop i b) (length a) (length b) i (omega (arith, length-drop i a)) (omega (arith, length-drop i b)) (omega (arith, length-drop i a, length-drop i b))
