-- The walk goes in path order.
use Rattle.std.proofs.Common.{◌≡◌, ℕ, zero, suc, ◌<◌, ◌≤◌, Bool, true, false, cond, ◌&&◌, List, [], ◌∷◌, ◌++◌, length, filter, flat_map, refl, sym, ◌∙◌, ap, subst, arith, Option, Some, None, T, true≢false, append_assoc, length-append, Less, Equal, Greater, nat_cmp, is_lt, Ordering, if◌then◌else◌}
use Rattle.std.specs.Option.{option_map_or}
use Rattle.std.specs.Cmp.Lexicographic.{slice_cmp}
use Rattle.std.specs.FinMap.{get, entries, entries_sorted, is_sorted}
use Rattle.std.specs.FinMap.Entries.{below_all}
use Rattle.path_order.specs.declared.kind.Kind.{Kind}
use Rattle.path_order.specs.Path.{is_root, joined}
use Rattle.path_order.specs.Order.{path_cmp}
use Rattle.path_order.specs.NameList.{Listed}
use Rattle.loc_outside.specs.Trees.{Dir, Dirs}
use Rattle.tree_scan.specs.Admitted.{is_directory, fits_in, admitted, paths_in}
use Rattle.tree_scan.specs.Reach.{Test, is_open}
use Rattle.mlocate_db.specs.Items.{in_directory}
use Rattle.tree_scan.proofs.Lists.{Each, Rises, each_more, each_all, each_append, each_flat_map, each_map, each_filter, rises_filter, rises_append, rises_flat_map, rises_map, each_pair}
use Rattle.tree_scan.proofs.Order.{Before, IsTail, same_front, before_longer, before_sibling}
use Rattle.tree_scan.proofs.WalkRecursion.{here, next, walk, IsGood, joined_is, admitted_good}

-- a path that goes on from another at a slash
pub record Under (path x : List ℕ) : Type 0 where
  pub tail : List ℕ
  pub is : x ≡ path ++ tail
  pub ends : IsTail tail

-- a path of a good name
pub record IsChild (path child : List ℕ) : Type 0 where
  pub name : List ℕ
  pub good : IsGood path name
  pub is : child ≡ joined path name

long_no_root : (x : List ℕ) → 2 ≤ length x → is_root x ≡ false
long_no_root [] h = refl
long_no_root (a ∷ []) h = absurd (omega arith)
long_no_root (a ∷ b ∷ rest) h = refl

pub joined_no_root : (path name : List ℕ) → 0 < length name → is_root (joined path name) ≡ false
joined_no_root path name h = by (is_root path) path refl
  where
    by : (b : Bool) (p : List ℕ) → is_root p ≡ b → is_root (if b then p ++ name else p ++ 47 ∷ name) ≡ false
    by true [] e = absurd (true≢false (sym e))
    by true (x ∷ p) e = long_no_root ((x ∷ p) ++ name) (omega (arith, h, length-append (x ∷ p) name))
    by false p e = long_no_root (p ++ 47 ∷ name) (omega (arith, h, length-append p (47 ∷ name)))

pub joined_other : (path name : List ℕ) → is_root path ≡ false → joined path name ≡ path ++ 47 ∷ name
joined_other path name e = ap (λ (b : Bool). if b then path ++ name else path ++ 47 ∷ name) e

children : (path : List ℕ) (names : Listed) → Each (λ e. IsGood path e.0) names → Each (IsChild path) (paths_in path names)
children path names h =
    each_map (IsChild path) (λ e. joined path e.0) (filter (λ e. is_directory e.1) names)
    (each_more _ _ (λ e g. record { name = e.0; good = g; is = refl }) _ (each_filter (λ e. IsGood path e.0) (λ e. is_directory e.1) names h))

pub next_by : (P : List (List ℕ) → Type 0) → P [] → (pruned : List ℕ → Bool) (path : List ℕ) (found : Option Dir) → ((dir : Dir) → P (paths_in path (admitted path dir)))
    → P (option_map_or (λ dir. cond (is_open pruned path dir) (paths_in path (admitted path dir)) []) found [])
next_by P none pruned path None f = none
next_by P none pruned path (Some dir) f = by (is_open pruned path dir)
  where
    by : (b : Bool) → P (cond b (paths_in path (admitted path dir)) [])
    by true = f dir
    by false = none

pub next_children : (dirs : Dirs) (pruned : List ℕ → Bool) (path : List ℕ) → Each (IsChild path) (next dirs pruned path)
next_children dirs pruned path = next_by (Each (IsChild path)) tt pruned path (get dirs path) (λ dir. children path (admitted path dir) (admitted_good path dir))

pub here_by : (P : List (List ℕ × Dir) → Type 0) → P [] → (last : Test) (path : List ℕ) (found : Option Dir) → ((dir : Dir) → found ≡ Some dir → last path dir ≡ true → P ((path, dir) ∷ []))
    → P (option_map_or (λ dir. cond (last path dir) ((path, dir) ∷ []) []) found [])
here_by P none last path None f = none
here_by P none last path (Some dir) f = by (last path dir) refl
  where
    by : (b : Bool) → last path dir ≡ b → P (cond b ((path, dir) ∷ []) [])
    by true e = f dir refl e
    by false e = none

-- what is under a path of a good name
pub below_child : (path name x : List ℕ) → is_root path ≡ false → Under (joined path name) x → Under path x
below_child path name x e u = record {
  tail = 47 ∷ name ++ u.tail;
  is = u.is ∙ ap (λ (l : List ℕ). l ++ u.tail) (joined_other path name e) ∙ append_assoc path (47 ∷ name) u.tail;
  ends = refl;
}

pub walk_under : (dirs : Dirs) (pruned : List ℕ → Bool) (last : Test) (k : ℕ) (path : List ℕ) → is_root path ≡ false → Each (λ e. Under path e.0) (walk dirs pruned last k path)
unfolding walk
walk_under dirs pruned last zero path e = tt
walk_under dirs pruned last (suc k) path e =
    each_append (λ (x : List ℕ × Dir). Under path x.0) (here dirs last path) _
    (here_by (Each (λ x. Under path x.0)) tt last path (get dirs path) (λ dir f t. (record { tail = []; is = sym (append_nil path); ends = tt }, tt)))
    (each_flat_map (λ (x : List ℕ × Dir). Under path x.0) (walk dirs pruned last k) (next dirs pruned path)
    (each_more _ _ (λ c h. each_more _ _ (λ x u. below_child path h.name x.0 e (subst (λ (d : List ℕ). Under d x.0) h.is u)) _ (walk_under dirs pruned last k c (ap is_root h.is ∙ joined_no_root path h.name h.good.long))) _ (next_children dirs pruned path)))
  where
    append_nil : (l : List ℕ) → l ++ [] ≡ l
    append_nil [] = refl
    append_nil (x ∷ l) = ap (λ (t : List ℕ). x ∷ t) (append_nil l)

-- paths of which all under one come before all under the other
pub record Apart (a b : List ℕ) : Type 0 where
  pub first : is_root a ≡ false
  pub second : is_root b ≡ false
  pub before : (x y : List ℕ) → Under a x → Under b y → Before x y

in_stem : (path name x : List ℕ) (u : Under (joined path name) x) → x ≡ in_directory path ++ (name ++ u.tail)
in_stem path name x u = u.is ∙ ap (λ (l : List ℕ). l ++ u.tail) (joined_is path name) ∙ append_assoc (in_directory path) name u.tail

pub siblings : (path m n : List ℕ) → IsGood path m → IsGood path n → slice_cmp nat_cmp m n ≡ Less → Apart (joined path m) (joined path n)
siblings path m n g h less = record {
  first = joined_no_root path m g.long;
  second = joined_no_root path n h.long;
  before = λ x y u v. (λ i. path_cmp (in_stem path m x u i) (in_stem path n y v i)) ∙ same_front (in_directory path) (m ++ u.tail) (n ++ v.tail) ∙ before_sibling m n u.tail v.tail g.slash h.slash less u.ends;
}

is_less : (r : Ordering) → T (is_lt r) → r ≡ Less
is_less Less h = refl
is_less Equal h = absurd h
is_less Greater h = absurd h

both : (a b : Bool) → T (a && b) → T a × T b
both true b h = (tt, h)
both false b h = absurd h

abbrev pub ByName : {X : Type 0} → List ℕ × X → List ℕ × X → Type 0
ByName a b = slice_cmp nat_cmp a.0 b.0 ≡ Less

each_less : {X : Type 0} (R : List ℕ → List ℕ → Ordering) (x : List ℕ) (es : List (List ℕ × X)) → T (below_all R x es) → Each (λ e. R x e.0 ≡ Less) es
each_less R x [] h = tt
each_less R x (e ∷ es) h = let p = both (is_lt (R x e.0)) _ h in (is_less _ p.0, each_less R x es p.1)

pub rises_sorted : {X : Type 0} (R : List ℕ → List ℕ → Ordering) (es : List (List ℕ × X)) → T (is_sorted R es) → Rises (λ a b. R a.0 b.0 ≡ Less) es
rises_sorted R [] h = tt
rises_sorted R (e ∷ es) h = let p = both (below_all R e.0 es) _ h in (each_less R e.0 es p.0, rises_sorted R es p.1)

pub names_rise : (path : List ℕ) (dir : Dir) → Rises Apart (paths_in path (admitted path dir))
names_rise path dir =
    rises_map ByName Apart (λ (e : List ℕ × Kind). IsGood path e.0) (λ e. joined path e.0) (λ a b g h less. siblings path a.0 b.0 g h less) _
    (each_filter (λ e. IsGood path e.0) (λ e. is_directory e.1) (admitted path dir) (admitted_good path dir))
    (rises_filter ByName (λ e. is_directory e.1) (admitted path dir) (rises_filter ByName (λ e. fits_in path e.0) (entries dir.names) (rises_sorted (slice_cmp nat_cmp) (entries dir.names) (entries_sorted dir.names))))

abbrev pub ByPath : List ℕ × Dir → List ℕ × Dir → Type 0
ByPath a b = Before a.0 b.0

pub before_child : (path name x : List ℕ) → IsGood path name → Under (joined path name) x → Before path x
before_child path name x g u = subst (Before path) (sym (in_stem path name x u)) (by (is_root path) name g.long)
  where
    by : (b : Bool) (n : List ℕ) → 0 < length n → Before path ((if b then path else path ++ 47 ∷ []) ++ (n ++ u.tail))
    by true [] h = absurd (omega arith)
    by true (c ∷ n) h = before_longer path c (n ++ u.tail)
    by false n h = subst (Before path) (sym (append_assoc path (47 ∷ []) (n ++ u.tail))) (before_longer path 47 (n ++ u.tail))

-- the walk gives paths in path order
pub walk_rises : (dirs : Dirs) (pruned : List ℕ → Bool) (last : Test) (k : ℕ) (path : List ℕ) → Rises ByPath (walk dirs pruned last k path)
unfolding walk
walk_rises dirs pruned last zero path = tt
walk_rises dirs pruned last (suc k) path =
    rises_append ByPath (here dirs last path) _
    (here_by (Rises ByPath) tt last path (get dirs path) (λ dir f t. (tt, tt)))
    (rises_flat_map Apart ByPath (walk dirs pruned last k) (next dirs pruned path)
    (λ x y apart. each_pair (λ e. Under x e.0) (λ e. Under y e.0) ByPath (λ a b u v. apart.before a.0 b.0 u v) _ _ (walk_under dirs pruned last k x apart.first) (walk_under dirs pruned last k y apart.second))
    (next_by (Rises Apart) tt pruned path (get dirs path) (λ dir. names_rise path dir))
    (each_all _ (λ c. walk_rises dirs pruned last k c) (next dirs pruned path)))
    (here_by (Each (λ x. Each (ByPath x) (flat_map (walk dirs pruned last k) (next dirs pruned path)))) tt last path (get dirs path) (λ dir f t. (
      each_flat_map (λ (e : List ℕ × Dir). Before path e.0) (walk dirs pruned last k) (next dirs pruned path)
          (each_more _ _ (λ c h. each_more _ _ (λ x u. before_child path h.name x.0 h.good (subst (λ (d : List ℕ). Under d x.0) h.is u)) _ (walk_under dirs pruned last k c (ap is_root h.is ∙ joined_no_root path h.name h.good.long))) _ (next_children dirs pruned path)),
      tt,
    )))
