-- The walk's directories are those that names lead to.
use Rattle.std.proofs.Common.{◌≡◌, ℕ, zero, suc, ◌<◌, ◌≤◌, Bool, true, false, cond, ◌&&◌, ◌||◌, List, [], ◌∷◌, map, length, filter, refl, sym, ◌∙◌, ap, subst, Option, Some, None, true≢false, nat_cmp, is_eq, inl, inr}
use Rattle.std.specs.Option.{option_map_or}
use Rattle.std.specs.List.{list_any}
use Rattle.std.specs.Ordering.{eq_by_cmp}
use Rattle.std.specs.Cmp.Lexicographic.{slice_cmp}
use Rattle.std.specs.FinMap.{get, nat_cmp-IsAntisymmetric, slice_cmp-IsAntisymmetric}
use Rattle.std.specs.Cmp.{Equal-is}
use Rattle.std.proofs.lemmas.Cmp.{nat_list_cmp_total, tied_itself}
use Rattle.path_order.specs.Path.{joined}
use Rattle.path_order.specs.NameList.{Listed}
use Rattle.loc_outside.specs.Trees.{Dir, Dirs}
use Rattle.tree_scan.specs.Admitted.{is_directory, admitted, paths_in, names_directory}
use Rattle.tree_scan.specs.Reach.{Test, is_open, leads}
use Rattle.tree_scan.proofs.Lists.{Each, Has, each_more, each_append, each_flat_map, each_map, has_left, has_right, has_flat_map}
use Rattle.tree_scan.proofs.Order.{NoSlash}
use Rattle.tree_scan.proofs.WalkRecursion.{here, next, walk, IsGood, admitted_good, subtree, subtree_is}
use Rattle.tree_scan.proofs.Sorted.{here_by}

-- the path that names lead to
abbrev pub path_by : List ℕ → List (List ℕ) → List ℕ
path_by path [] = path
path_by path (n ∷ ns) = path_by (joined path n) ns

pub record IsFine (name : List ℕ) : Type 0 where
  pub long : 0 < length name
  pub slash : NoSlash name

-- a directory that good names lead to from a path
pub record Led (dirs : Dirs) (pruned : List ℕ → Bool) (last : Test) (path q : List ℕ) (d : Dir) : Type 0 where
  pub names : List (List ℕ)
  pub are : path_by path names ≡ q
  pub lead : leads dirs pruned last path names ≡ true
  pub found : get dirs q ≡ Some d
  pub fine : Each IsFine names

-- a step down from an open directory
record IsStep (dirs : Dirs) (pruned : List ℕ → Bool) (path child : List ℕ) : Type 0 where
  name : List ℕ
  good : IsGood path name
  is : child ≡ joined path name
  goes : option_map_or (λ dir. is_open pruned path dir && names_directory path dir name) (get dirs path) false ≡ true

both_true : (a b : Bool) → a ≡ true → b ≡ true → (a && b) ≡ true
both_true true b h k = k
both_true false b h k = absurd (true≢false (sym h))

left : (a b : Bool) → (a && b) ≡ true → a ≡ true
left true b p = refl
left false b p = p

right : (a b : Bool) → (a && b) ≡ true → b ≡ true
right true b p = p
right false b p = absurd (true≢false (sym p))

or_true : (a b : Bool) → b ≡ true → (a || b) ≡ true
or_true true b e = refl
or_true false b e = e

any_has : {A : Type 0} (p : A → Bool) (xs : List A) (x : A) → Has x xs → p x ≡ true → list_any p xs ≡ true
any_has p [] x h e = absurd h
any_has p (y ∷ ys) x (inl is) e = ap (λ b. b || list_any p ys) (ap p (sym is) ∙ e)
any_has p (y ∷ ys) x (inr h) e = or_true (p y) _ (any_has p ys x h e)

own : {A : Type 0} (xs : List A) → Each (λ x. Has x xs) xs
own [] = tt
own {A = A} (x ∷ xs) = (inl refl, each_more (λ y. Has y xs) (λ y. Has y (x ∷ xs)) (λ y h. inr h) xs (own xs))

passes : {A : Type 0} (P : A → Type 0) (p : A → Bool) (b : Bool) (x : A) (xs : List A) → p x ≡ b → P x → Each (λ y. P y × (p y ≡ true)) xs → Each (λ y. P y × (p y ≡ true)) (cond b (x ∷ xs) xs)
passes P p true x xs e h k = ((h, e), k)
passes P p false x xs e h k = k

each_kept : {A : Type 0} (P : A → Type 0) (p : A → Bool) (xs : List A) → Each P xs → Each (λ y. P y × (p y ≡ true)) (filter p xs)
each_kept P p [] h = tt
each_kept P p (x ∷ xs) h = passes P p (p x) x (filter p xs) refl h.0 (each_kept P p xs h.1)

same_name : (n : List ℕ) → eq_by_cmp (slice_cmp nat_cmp) n n ≡ true
same_name n = ap is_eq (tied_itself nat_list_cmp_total n)

two : {A : Type 0} (P Q : A → Type 0) (xs : List A) → Each P xs → Each Q xs → Each (λ x. P x × Q x) xs
two P Q [] h k = tt
two P Q (x ∷ xs) h k = ((h.0, k.0), two P Q xs h.1 k.1)

steps_in : (dirs : Dirs) (pruned : List ℕ → Bool) (path : List ℕ) (dir : Dir) → get dirs path ≡ Some dir → is_open pruned path dir ≡ true → Each (IsStep dirs pruned path) (paths_in path (admitted path dir))
steps_in dirs pruned path dir found opens =
    each_map (IsStep dirs pruned path) (λ e. joined path e.0) (filter (λ e. is_directory e.1) (admitted path dir))
    (each_more _ _ (λ e h. record {
      name = e.0;
      good = h.0.1;
      is = refl;
      goes = ap (λ (o : Option Dir). option_map_or (λ d. is_open pruned path d && names_directory path d e.0) o false) found
          ∙ both_true _ _ opens (any_has (λ f. is_directory f.1 && eq_by_cmp (slice_cmp nat_cmp) e.0 f.0) (admitted path dir) e h.0.0 (both_true _ _ h.1 (same_name e.0)));
    }) _ (each_kept (λ e. Has e (admitted path dir) × IsGood path e.0) (λ e. is_directory e.1) (admitted path dir) (two _ _ _ (own (admitted path dir)) (admitted_good path dir))))

step_by : (dirs : Dirs) (pruned : List ℕ → Bool) (path : List ℕ) (found : Option Dir) → get dirs path ≡ found
    → Each (IsStep dirs pruned path) (option_map_or (λ dir. cond (is_open pruned path dir) (paths_in path (admitted path dir)) []) found [])
step_by dirs pruned path None e = tt
step_by dirs pruned path (Some dir) e = by (is_open pruned path dir) refl
  where
    by : (b : Bool) → is_open pruned path dir ≡ b → Each (IsStep dirs pruned path) (cond b (paths_in path (admitted path dir)) [])
    by true o = steps_in dirs pruned path dir e o
    by false o = tt

next_steps : (dirs : Dirs) (pruned : List ℕ → Bool) (path : List ℕ) → Each (IsStep dirs pruned path) (next dirs pruned path)
next_steps dirs pruned path = step_by dirs pruned path (get dirs path) refl

led_here : (dirs : Dirs) (pruned : List ℕ → Bool) (last : Test) (path : List ℕ) (dir : Dir) → get dirs path ≡ Some dir → last path dir ≡ true → Led dirs pruned last path path dir
led_here dirs pruned last path dir f t = record {
  names = [];
  are = refl;
  lead = ap (λ (o : Option Dir). option_map_or (λ d. last path d) o false) f ∙ t;
  found = f;
  fine = tt;
}

led_down : (dirs : Dirs) (pruned : List ℕ → Bool) (last : Test) (path child q : List ℕ) (d : Dir) → IsStep dirs pruned path child → Led dirs pruned last child q d → Led dirs pruned last path q d
led_down dirs pruned last path child q d s l = record {
  names = s.name ∷ l.names;
  are = ap (λ (c : List ℕ). path_by c l.names) (sym s.is) ∙ l.are;
  lead = both_true _ _ s.goes (ap (λ (c : List ℕ). leads dirs pruned last c l.names) (sym s.is) ∙ l.lead);
  found = l.found;
  fine = (record { long = s.good.long; slash = s.good.slash }, l.fine);
}

-- names lead to each directory of the walk
pub walk_led : (dirs : Dirs) (pruned : List ℕ → Bool) (last : Test) (k : ℕ) (path : List ℕ) → Each (λ e. Led dirs pruned last path e.0 e.1) (walk dirs pruned last k path)
unfolding walk
walk_led dirs pruned last zero path = tt
walk_led dirs pruned last (suc k) path =
    each_append (λ (e : List ℕ × Dir). Led dirs pruned last path e.0 e.1) (here dirs last path) _
    (here_by (Each (λ e. Led dirs pruned last path e.0 e.1)) tt last path (get dirs path) (λ dir f t. (led_here dirs pruned last path dir f t, tt)))
    (each_flat_map (λ (e : List ℕ × Dir). Led dirs pruned last path e.0 e.1) (walk dirs pruned last k) (next dirs pruned path)
    (each_more _ _ (λ c s. each_more _ _ (λ e l. led_down dirs pruned last path c e.0 e.1 s l) _ (walk_led dirs pruned last k c)) _ (next_steps dirs pruned path)))

-- an open directory that the names go through, and where the next stands in it
record Passed (dirs : Dirs) (pruned : List ℕ → Bool) (path name : List ℕ) : Type 0 where
  good : IsGood path name
  here : Has (joined path name) (next dirs pruned path)

found_name : (path name : List ℕ) (es : Listed) → Each (λ e. IsGood path e.0) es → list_any (λ e. is_directory e.1 && eq_by_cmp (slice_cmp nat_cmp) name e.0) es ≡ true
    → IsGood path name × Has (joined path name) (paths_in path es)
found_name path name [] h e = absurd (true≢false (sym e))
found_name path name (x ∷ es) h e = by (is_directory x.1) (eq_by_cmp (slice_cmp nat_cmp) name x.0) refl e (found_name path name es h.1)
  where
    same : eq_by_cmp (slice_cmp nat_cmp) name x.0 ≡ true → name ≡ x.0
    same t = slice_cmp-IsAntisymmetric nat_cmp-IsAntisymmetric name x.0 ((Equal-is _).0 t)

    by : (a b : Bool) → eq_by_cmp (slice_cmp nat_cmp) name x.0 ≡ b → ((a && b) || list_any (λ f. is_directory f.1 && eq_by_cmp (slice_cmp nat_cmp) name f.0) es) ≡ true
        → (list_any (λ f. is_directory f.1 && eq_by_cmp (slice_cmp nat_cmp) name f.0) es ≡ true → IsGood path name × Has (joined path name) (paths_in path es))
        → IsGood path name × Has (joined path name) (map (λ f. joined path f.0) (cond a (x ∷ filter (λ f. is_directory f.1) es) (filter (λ f. is_directory f.1) es)))
    by true true is t f = (subst (IsGood path) (sym (same is)) h.0, inl (ap (joined path) (same is)))
    by true false is t f = let r = f t in (r.0, inr r.1)
    by false b is t f = f t

pass_by : (pruned : List ℕ → Bool) (path name : List ℕ) (found : Option Dir) → option_map_or (λ dir. is_open pruned path dir && names_directory path dir name) found false ≡ true
    → IsGood path name × Has (joined path name) (option_map_or (λ dir. cond (is_open pruned path dir) (paths_in path (admitted path dir)) []) found [])
pass_by pruned path name None e = absurd (true≢false (sym e))
pass_by pruned path name (Some dir) e = by (is_open pruned path dir) (left _ _ e) (found_name path name (admitted path dir) (admitted_good path dir) (right (is_open pruned path dir) _ e))
  where
    by : (b : Bool) → b ≡ true → IsGood path name × Has (joined path name) (paths_in path (admitted path dir)) → IsGood path name × Has (joined path name) (cond b (paths_in path (admitted path dir)) [])
    by true o h = h
    by false o h = absurd (true≢false (sym o))

here_has : (last : Test) (path : List ℕ) (d : Dir) (found : Option Dir) → found ≡ Some d → option_map_or (λ dir. last path dir) found false ≡ true
    → Has {A = List ℕ × Dir} (path, d) (option_map_or (λ dir. cond (last path dir) ((path, dir) ∷ []) []) found [])
here_has last path d None f t = absurd (true≢false (sym t))
here_has last path d (Some dir) f t = by (last path dir) t
  where
    is : d ≡ dir
    is = ap (λ (o : Option Dir). option_map_or (λ x. x) o d) (sym f)

    by : (b : Bool) → b ≡ true → Has {A = List ℕ × Dir} (path, d) (cond b ((path, dir) ∷ []) [])
    by true o = inl (ap (λ (x : Dir). (path, x)) is)
    by false o = absurd (true≢false (sym o))

-- the walk comes to each directory that names lead to
pub led_walked : (dirs : Dirs) (pruned : List ℕ → Bool) (last : Test) (names : List (List ℕ)) (path : List ℕ) (d : Dir) → length path ≤ 4096 → leads dirs pruned last path names ≡ true
    → get dirs (path_by path names) ≡ Some d → Has {A = List ℕ × Dir} (path_by path names, d) (subtree dirs pruned last path)
led_walked dirs pruned last [] path d fits t f =
    subst (Has {A = List ℕ × Dir} (path, d)) (sym (subtree_is dirs pruned last path fits)) (has_left _ _ _ (here_has last path d (get dirs path) f t))
led_walked dirs pruned last (n ∷ ns) path d fits t f =
    let p = pass_by pruned path n (get dirs path) (left _ _ t) in
    subst (Has {A = List ℕ × Dir} (path_by path (n ∷ ns), d)) (sym (subtree_is dirs pruned last path fits))
    (has_right _ (here dirs last path) _ (has_flat_map (subtree dirs pruned last) (joined path n) _ _ p.1 (led_walked dirs pruned last ns (joined path n) d p.0.fits (right _ _ t) f)))

-- names that lead are good
pub leads_good : (dirs : Dirs) (pruned : List ℕ → Bool) (last : Test) (path : List ℕ) (names : List (List ℕ)) → leads dirs pruned last path names ≡ true → Each IsFine names
leads_good dirs pruned last path [] t = tt
leads_good dirs pruned last path (n ∷ ns) t =
    let p = pass_by pruned path n (get dirs path) (left _ _ t) in
    (record { long = p.0.long; slash = p.0.slash }, leads_good dirs pruned last (joined path n) ns (right _ _ t))

pub record IsThere (dirs : Dirs) (path : List ℕ) : Type 0 where
  pub dir : Dir
  pub is : get dirs path ≡ Some dir

there_by : (last : Test) (path : List ℕ) (dirs : Dirs) (found : Option Dir) → get dirs path ≡ found → option_map_or (λ dir. last path dir) found false ≡ true → IsThere dirs path
there_by last path dirs None e t = absurd (true≢false (sym t))
there_by last path dirs (Some d) e t = record { dir = d; is = e }

-- names lead to what is there
pub leads_found : (dirs : Dirs) (pruned : List ℕ → Bool) (last : Test) (path : List ℕ) (names : List (List ℕ)) → leads dirs pruned last path names ≡ true → IsThere dirs (path_by path names)
leads_found dirs pruned last path [] t = there_by last path dirs (get dirs path) refl t
leads_found dirs pruned last path (n ∷ ns) t = leads_found dirs pruned last (joined path n) ns (right _ _ t)
