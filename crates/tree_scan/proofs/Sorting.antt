-- The names of a listing, put in order.
use Rattle.std.proofs.Common.{◌≡◌, ℕ, ◌<◌, Bool, true, false, cond, List, [], ◌∷◌, filter, length, refl, sym, ◌∙◌, ap, subst, arith, ◌&&◌, nat_cmp, is_lt, Less, IsPermutation, All, Contains, inl, inr, suc, zero, get_or}
use Rattle.std.proofs.lemmas.List.{get_or_default}
use Rattle.std.specs.Cmp.Lexicographic.{slice_cmp}
use Rattle.std.specs.FinMap.{is_sorted, entries, entries_sorted}
use Rattle.std.specs.FinMap.Entries.{below_all}
use Rattle.std.proofs.lemmas.List.Sorted.{Contains-permutation, IsPermutation-sym}
use Rattle.path_order.specs.declared.kind.Kind.{Kind}
use Rattle.path_order.specs.declared.kind.Kind.TheVariants.{File, Directory}
use Rattle.path_order.specs.NameList.{Listed, SortsTo, HasFirst}
use Rattle.path_order.specs.NameList as lists
use Rattle.path_order.proofs.SortLemmas.{sorted_once, rising_sorts}
use Rattle.loc_outside.specs.Trees.{Dir}
use Rattle.tree_scan.specs.Admitted.{fits_in, admitted}
use Rattle.tree_scan.proofs.Lists.{Each, Has, Rises, rises_filter}
use Rattle.tree_scan.proofs.Sorted.{ByName, rises_sorted}

abbrev Entry : Type 0
Entry = List ℕ × Kind

has_contains : (x : Entry) (xs : Listed) → Has x xs → Contains xs x
has_contains x [] h = absurd h
has_contains x (y ∷ ys) (inl e) = (0, omega arith, sym e)
has_contains x (y ∷ ys) (inr h) = let r = has_contains x ys h in (suc r.0, omega (arith, r.1), r.2)

contains_has : (xs : Listed) (k : ℕ) (x : Entry) → k < length xs → get_or xs k x ≡ x → Has x xs
contains_has [] k x h e = absurd (omega (arith, h))
contains_has (y ∷ ys) zero x h e = inl (sym e)
contains_has (y ∷ ys) (suc k) x h e = inr (contains_has ys k x (omega (arith, h)) e)

has_filter : (p : Entry → Bool) (xs : Listed) (x : Entry) → Has x xs → p x ≡ true → Has x (filter p xs)
has_filter p [] x h t = absurd h
has_filter p (y ∷ ys) x (inl e) t = subst (λ (b : Bool). Has x (cond b (y ∷ filter p ys) (filter p ys))) (sym (ap p (sym e) ∙ t)) (inl e)
has_filter p (y ∷ ys) x (inr h) t = by (p y) (has_filter p ys x h t)
  where
    by : (b : Bool) → Has x (filter p ys) → Has x (cond b (y ∷ filter p ys) (filter p ys))
    by true h = inr h
    by false h = h

filter_has : (p : Entry → Bool) (xs : Listed) (x : Entry) → Has x (filter p xs) → Has x xs × (p x ≡ true)
filter_has p [] x h = absurd h
filter_has p (y ∷ ys) x h = by (p y) refl h (filter_has p ys x)
  where
    by : (b : Bool) → p y ≡ b → Has x (cond b (y ∷ filter p ys) (filter p ys)) → (Has x (filter p ys) → Has x ys × (p x ≡ true)) → Has x (y ∷ ys) × (p x ≡ true)
    by true e (inl is) f = (inl is, ap p is ∙ e)
    by true e (inr h) f = let r = f h in (inr r.0, r.1)
    by false e h f = let r = f h in (inr r.0, r.1)

-- the elements of a permutation that pass
passes : (p : Entry → Bool) (xs ys : Listed) (x : Entry) → IsPermutation xs ys → Contains (filter p xs) x → Contains (filter p ys) x
passes p xs ys x perm c =
    let f = filter_has p xs x (contains_has (filter p xs) c.0 x c.1 c.2) in
    let m = Contains-permutation xs ys x perm (has_contains x xs f.0) in
    has_contains x (filter p ys) (has_filter p ys x (contains_has ys m.0 x m.1 m.2) f.1)

both : (a b : Bool) → a ≡ true → b ≡ true → (a && b) ≡ true
both a b e f = cc

below_from : (x : List ℕ) (es : Listed) → Each (λ e. slice_cmp nat_cmp x e.0 ≡ Less) es → below_all (slice_cmp nat_cmp) x es ≡ true
below_from x [] h = refl
below_from x (e ∷ es) h = both _ _ (ap is_lt h.0) (below_from x es h.1)

-- names that rise one by one are sorted
names_sorted : (es : Listed) → Rises (λ a b. slice_cmp nat_cmp a.0 b.0 ≡ Less) es → is_sorted (slice_cmp nat_cmp) es ≡ true
names_sorted [] h = refl
names_sorted (e ∷ es) h = both _ _ (below_from e.0 es h.0) (names_sorted es h.1)

pub admitted_rises : (path : List ℕ) (dir : Dir) → lists.Rises (admitted path dir)
admitted_rises path dir = names_sorted (admitted path dir) (rises_filter ByName (λ e. fits_in path e.0) (entries dir.names) (rises_sorted (slice_cmp nat_cmp) (entries dir.names) (entries_sorted dir.names)))

-- a listing in any order, its names that fit, put in order: the admitted names
pub sorted_admitted : (path : List ℕ) (dir : Dir) (listed given sorted : Listed) → IsPermutation listed (entries dir.names) → given ≡ filter (λ e. fits_in path e.0) listed → SortsTo given sorted → sorted ≡ admitted path dir
sorted_admitted path dir listed given sorted perm are s =
    let fit : Entry → Bool = λ e. fits_in path e.0 in
    let back = IsPermutation-sym listed (entries dir.names) perm in
    let other : SortsTo (filter fit listed) (admitted path dir) =
    rising_sorts (filter fit listed) (admitted path dir) (admitted_rises path dir) (λ name kind. (passes fit (entries dir.names) listed (name, kind) back, passes fit listed (entries dir.names) (name, kind) perm)) in
    sorted_once given sorted (admitted path dir) s (subst (λ (l : Listed). SortsTo l (admitted path dir)) (sym are) other)

first_was : (old : Listed) (name : List ℕ) (kind : Kind) → HasFirst old name kind → Contains old (name, kind)
first_was old name File h = h
first_was old name Directory h = h.0

-- what holds of all names holds of those that are sorted
pub all_sorted : (P : Entry → Type 0) (old new : Listed) → SortsTo old new → All P old → All P new
all_sorted P old new s all = λ k d h.
    let e = get_or new k d in
    let c = first_was old e.0 e.1 ((s.holds e.0 e.1).0 (k, h, get_or_default new k e d h)) in
    subst P c.2 (all c.0 e c.1)
