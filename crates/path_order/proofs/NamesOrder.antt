-- The order of normal paths is that of their lists of names.
use Rattle.std.proofs.Common.{◌≡◌, ℕ, ◌+◌, List, [], ◌∷◌, ◌++◌, refl, sym, ◌∙◌, ap, arith, true, false, not}
use Rattle.std.proofs.lemmas.Bool.Decides.{nat_tests}
use Rattle.std.specs.declared.cmp.Ordering.{Ordering}
use Rattle.std.specs.declared.cmp.Ordering.TheVariants.{Less, Equal, Greater}
use Rattle.std.specs.Ordering.{nat_cmp, ordering_then}
use Rattle.std.specs.Cmp.{nat_cmp_is}
use Rattle.std.specs.Cmp.Lexicographic.{slice_cmp}
use Rattle.std.specs.List.{list_all, list_any}
use Rattle.path_order.specs.Names.{is_name}
use Rattle.path_order.specs.Order.{rank, path_cmp, names_cmp}
use Rattle.path_order.specs.Path.{is_slash, slashed, path_of, comps, is_normal}
use Rattle.path_order.proofs.PathLemmas.{first_of, second_of, neither_first, neither_second, path_is_made, comps_are_names}

then_assoc : (a b c : Ordering) → ordering_then a (ordering_then b c) ≡ ordering_then (ordering_then a b) c
then_assoc Less b c = refl
then_assoc Equal b c = refl
then_assoc Greater b c = refl

-- the rank of a byte that is no slash
rank_is : (x : ℕ) → is_slash x ≡ false → rank x ≡ x + 1
rank_is x e = grind (arith, nat_tests)

one_more : (x y : ℕ) → nat_cmp (x + 1) (y + 1) ≡ nat_cmp x y
one_more x y = grind (arith, nat_tests)

-- such bytes are ordered by their values
rank_cmp : (x y : ℕ) → is_slash x ≡ false → is_slash y ≡ false → nat_cmp (rank x) (rank y) ≡ nat_cmp x y
rank_cmp x y e f = (λ i. nat_cmp (rank_is x e i) (rank_is y f i)) ∙ one_more x y

-- a slash comes before them
slash_less : (x : ℕ) → is_slash x ≡ false → nat_cmp 0 (rank x) ≡ Less
slash_less x e = sym (nat_cmp_is 0 (rank x) Less (omega (arith, rank_is x e)))

slash_greater : (x : ℕ) → is_slash x ≡ false → nat_cmp (rank x) 0 ≡ Greater
slash_greater x e = sym (nat_cmp_is (rank x) 0 Greater (omega (arith, rank_is x e)))

-- the first names decide, and else the others
names_first : (n m : List ℕ) (ns ms : List (List ℕ)) → not (list_any is_slash n) ≡ true → not (list_any is_slash m) ≡ true → path_cmp (n ++ slashed ns) (m ++ slashed ms) ≡ ordering_then (slice_cmp nat_cmp n m) (path_cmp (slashed ns) (slashed ms))
names_first [] [] ns ms e f = refl
names_first [] (y ∷ m) [] ms e f = refl
names_first [] (y ∷ m) (next ∷ ns) ms e f =
    ap (λ (o : Ordering). ordering_then o (path_cmp (next ++ slashed ns) (m ++ slashed ms))) (slash_less y (neither_first _ _ f))
names_first (x ∷ n) [] ns [] e f = refl
names_first (x ∷ n) [] ns (next ∷ ms) e f =
    ap (λ (o : Ordering). ordering_then o (path_cmp (n ++ slashed ns) (next ++ slashed ms))) (slash_greater x (neither_first _ _ e))
names_first (x ∷ n) (y ∷ m) ns ms e f =
    ap (λ (o : Ordering). ordering_then o (path_cmp (n ++ slashed ns) (m ++ slashed ms))) (rank_cmp x y (neither_first _ _ e) (neither_first _ _ f))
    ∙ ap (ordering_then (nat_cmp x y)) (names_first n m ns ms (neither_second _ _ e) (neither_second _ _ f))
    ∙ then_assoc (nat_cmp x y) (slice_cmp nat_cmp n m) _

no_slash : (name : List ℕ) → is_name name ≡ true → not (list_any is_slash name) ≡ true
no_slash name e = second_of _ _ (first_of _ _ (first_of _ _ (first_of _ _ e)))

-- names that are written after slashes are ordered as they are
slashed_cmp : (ns ms : List (List ℕ)) → list_all is_name ns ≡ true → list_all is_name ms ≡ true → path_cmp (slashed ns) (slashed ms) ≡ names_cmp ns ms
slashed_cmp [] [] e f = refl
slashed_cmp [] (m ∷ ms) e f = refl
slashed_cmp (n ∷ ns) [] e f = refl
slashed_cmp (n ∷ ns) (m ∷ ms) e f =
    names_first n m ns ms (no_slash n (first_of _ _ e)) (no_slash m (first_of _ _ f))
    ∙ ap (ordering_then (slice_cmp nat_cmp n m)) (slashed_cmp ns ms (second_of _ _ e) (second_of _ _ f))

-- so are the paths that they make
made_cmp : (ns ms : List (List ℕ)) → list_all is_name ns ≡ true → list_all is_name ms ≡ true → path_cmp (path_of ns) (path_of ms) ≡ names_cmp ns ms
made_cmp [] [] e f = refl
made_cmp [] ([] ∷ ms) e f = cc
made_cmp [] ((y ∷ m) ∷ ms) e f = refl
made_cmp ([] ∷ ns) [] e f = cc
made_cmp ((x ∷ n) ∷ ns) [] e f = refl
made_cmp (n ∷ ns) (m ∷ ms) e f = slashed_cmp (n ∷ ns) (m ∷ ms) e f

-- on normal paths, path order is that of the components
pub order_is_by_names : (a b : List ℕ) → is_normal a ≡ true → is_normal b ≡ true → path_cmp a b ≡ names_cmp (comps a) (comps b)
order_is_by_names a b e f =
    (λ i. path_cmp (sym (path_is_made a e) i) (sym (path_is_made b f) i)) ∙ made_cmp (comps a) (comps b) (comps_are_names a e) (comps_are_names b f)
