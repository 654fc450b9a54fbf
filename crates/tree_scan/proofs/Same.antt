-- The walk gives the set in path order.
use Rattle.std.proofs.Common.{◌≡◌, ℕ, ◌≤◌, Bool, true, false, cond, ◌&&◌, T, List, [], ◌∷◌, length, refl, sym, ◌∙◌, ap, subst, Option, Some, None, true≢false, Less, Greater, nat_cmp, is_eq, is_lt, Ordering, inl, inr}
use Rattle.std.specs.Option.{option_map_or}
use Rattle.std.specs.Ordering.{eq_by_cmp, ordering_reverse}
use Rattle.std.specs.Cmp.{Equal-is}
use Rattle.std.specs.Cmp.Lexicographic.{slice_cmp}
use Rattle.std.specs.FinMap.{get, entries, entries_sorted, is_sorted, find, get-entries, get-retain_keys, get-from_entries, retain_keys, nat_cmp-IsAntisymmetric, slice_cmp-IsAntisymmetric}
use Rattle.std.specs.FinMap.Entries.{below_all, same_entries}
use Rattle.std.proofs.lemmas.Cmp.{nat_list_cmp_total, tied_itself}
use Rattle.path_order.specs.Order.{path_cmp}
use Rattle.loc_outside.specs.Trees.{Dir, Dirs}
use Rattle.tree_scan.specs.Reach.{Test, is_led, led, in_path_order}
use Rattle.tree_scan.proofs.Lists.{Each, Has, Rises, each_has}
use Rattle.tree_scan.proofs.Order.{Before, path_total, path_same}
use Rattle.tree_scan.proofs.WalkRecursion.{walk, subtree}
use Rattle.tree_scan.proofs.Sorted.{ByPath, walk_rises}
use Rattle.tree_scan.proofs.Members.{Led, walk_led, led_walked, leads_found}
use Rattle.tree_scan.proofs.PathNames.{led_reaches, led_is}

both : (a b : Bool) → a ≡ true → T b → T (a && b)
both true b e h = h
both false b e h = absurd (true≢false (sym e))

below_from : (x : List ℕ) (es : List (List ℕ × Dir)) → Each (λ e. Before x e.0) es → T (below_all path_cmp x es)
below_from x [] h = tt
below_from x (e ∷ es) h = both (is_lt (path_cmp x e.0)) _ (ap is_lt h.0) (below_from x es h.1)

true_T : (b : Bool) → T b → b ≡ true
true_T true h = refl
true_T false h = absurd h

sorted_from : (es : List (List ℕ × Dir)) → Rises ByPath es → T (is_sorted path_cmp es)
sorted_from [] h = tt
sorted_from (e ∷ es) h = both (below_all path_cmp e.0 es) _ (true_T _ (below_from e.0 es h.0)) (sorted_from es h.1)

pub found_has : (q : List ℕ) (d : Dir) (es : List (List ℕ × Dir)) → find path_cmp q es ≡ Some d → Has {A = List ℕ × Dir} (q, d) es
found_has q d [] e = absurd (true≢false (sym (ap (λ (o : Option Dir). option_map_or (λ z. true) o false) e)))
found_has q d (x ∷ es) e = by (eq_by_cmp path_cmp q x.0) refl e (found_has q d es)
  where
    by : (b : Bool) → eq_by_cmp path_cmp q x.0 ≡ b → cond b (Some x.1) (find path_cmp q es) ≡ Some d → (find path_cmp q es ≡ Some d → Has {A = List ℕ × Dir} (q, d) es) → Has {A = List ℕ × Dir} (q, d) (x ∷ es)
    by true t h f =
        let key : q ≡ x.0 = path_same q x.0 ((Equal-is _).0 t) in
        let value : d ≡ x.1 = ap (λ (o : Option Dir). option_map_or (λ z. z) o d) (sym h) in
        inl (λ i. (key i, value i))
    by false t h f = inr (f h)

not_less : (r : Ordering) → r ≡ Less → is_eq r ≡ false
not_less r e = ap is_eq e

has_found : (q : List ℕ) (d : Dir) (es : List (List ℕ × Dir)) → Rises ByPath es → Has {A = List ℕ × Dir} (q, d) es → find path_cmp q es ≡ Some d
has_found q d [] up h = absurd h
has_found q d (x ∷ es) up (inl e) =
    ap (λ (b : Bool). cond b (Some x.1) (find path_cmp q es)) (ap (λ (k : List ℕ). eq_by_cmp path_cmp q k) (sym (ap (λ (p : List ℕ × Dir). p.0) e)) ∙ ap is_eq (tied_itself path_total q))
    ∙ ap (λ (p : List ℕ × Dir). Some p.1) (sym e)
has_found q d (x ∷ es) up (inr h) =
    let less : path_cmp x.0 q ≡ Less = each_has (λ (e : List ℕ × Dir). Before x.0 e.0) (q, d) es up.0 h in
    let more : path_cmp q x.0 ≡ Greater = path_total.antisymm q x.0 ∙ ap ordering_reverse less in
    ap (λ (b : Bool). cond b (Some x.1) (find path_cmp q es)) (ap is_eq more) ∙ has_found q d es up.1 h

either_way : (a b : Bool) → (a ≡ true → b ≡ true) → (b ≡ true → a ≡ true) → a ≡ b
either_way true b f g = sym (f refl)
either_way false true f g = g refl
either_way false false f g = refl

same_test : (q x : List ℕ) → eq_by_cmp path_cmp q x ≡ eq_by_cmp (slice_cmp nat_cmp) q x
same_test q x =
    either_way _ _
    (λ t. ap (λ (k : List ℕ). eq_by_cmp (slice_cmp nat_cmp) q k) (sym (path_same q x ((Equal-is _).0 t))) ∙ ap is_eq (tied_itself nat_list_cmp_total q))
    (λ t. ap (λ (k : List ℕ). eq_by_cmp path_cmp q k) (sym (slice_cmp-IsAntisymmetric nat_cmp-IsAntisymmetric q x ((Equal-is _).0 t))) ∙ ap is_eq (tied_itself path_total q))

pub same_find : (q : List ℕ) (es : List (List ℕ × Dir)) → find path_cmp q es ≡ find (slice_cmp nat_cmp) q es
same_find q [] = refl
same_find q (e ∷ es) = λ i. cond (same_test q e.0 i) (Some e.1) (same_find q es i)

pub get_in_order : (dirs : Dirs) (q : List ℕ) → get (in_path_order dirs) q ≡ get dirs q
get_in_order dirs q = get-from_entries path_total (entries dirs) q ∙ same_find q (entries dirs) ∙ sym (get-entries dirs q)

pub led_get : (dirs : Dirs) (pruned : List ℕ → Bool) (last : Test) (root q : List ℕ) → find path_cmp q (led dirs pruned last root) ≡ cond (is_led dirs pruned last root q) (get dirs q) None
led_get dirs pruned last root q =
    sym (get-entries (retain_keys (in_path_order dirs) (is_led dirs pruned last root)) q)
    ∙ get-retain_keys (in_path_order dirs) (is_led dirs pruned last root) q (λ x e. ap (is_led dirs pruned last root) (sym (path_same q x e)))
    ∙ ap (λ (o : Option Dir). cond (is_led dirs pruned last root q) o None) (get_in_order dirs q)

walk_get : (dirs : Dirs) (pruned : List ℕ → Bool) (last : Test) (root q : List ℕ) → length root ≤ 4096 → find path_cmp q (subtree dirs pruned last root) ≡ cond (is_led dirs pruned last root q) (get dirs q) None
unfolding subtree
walk_get dirs pruned last root q fits = by (is_led dirs pruned last root q) refl
  where
    none : (o : Option Dir) → find path_cmp q (walk dirs pruned last 4097 root) ≡ o → is_led dirs pruned last root q ≡ false → o ≡ None
    none None e n = refl
    none (Some d) e n =
        absurd (true≢false (sym (led_is dirs pruned last root q d (each_has (λ (x : List ℕ × Dir). Led dirs pruned last root x.0 x.1) (q, d) _ (walk_led dirs pruned last 4097 root) (found_has q d _ e))) ∙ n))

    by : (b : Bool) → is_led dirs pruned last root q ≡ b → find path_cmp q (walk dirs pruned last 4097 root) ≡ cond b (get dirs q) None
    by true t =
        let r = led_reaches dirs pruned last root q t in
        let there = leads_found dirs pruned last root r.names r.lead in
        let found : get dirs q ≡ Some there.dir = ap (get dirs) (sym r.are) ∙ there.is in
        has_found q there.dir _ (walk_rises dirs pruned last 4097 root) (subst (λ (k : List ℕ). Has {A = List ℕ × Dir} (k, there.dir) (subtree dirs pruned last root)) r.are (led_walked dirs pruned last r.names root there.dir fits r.lead there.is))
        ∙ sym found
    by false n = none _ refl n

-- the walk from the root is the set of directories that names lead to, in path order
pub walk_is_led : (dirs : Dirs) (pruned : List ℕ → Bool) (last : Test) (root : List ℕ) → length root ≤ 4096 → subtree dirs pruned last root ≡ led dirs pruned last root
unfolding subtree
walk_is_led dirs pruned last root fits =
    same_entries path_cmp path_total path_same _ _ (sorted_from _ (walk_rises dirs pruned last 4097 root)) (entries_sorted _)
    (λ q. walk_get dirs pruned last root q fits ∙ sym (led_get dirs pruned last root q))
