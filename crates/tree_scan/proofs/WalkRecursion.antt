-- The walk as a recursion: a directory, then what is below each of its directories in the order of their names.
use Rattle.std.proofs.Common.{◌≡◌, ℕ, zero, suc, ◌+◌, ◌<◌, ◌≤◌, Bool, true, false, not, cond, ◌&&◌, nat_lt, List, [], ◌∷◌, ◌++◌, length, filter, flat_map, refl, sym, ap, arith, Option, Some, None, true≢false, append_assoc, length-append, leb-true, ltb-true, if◌then◌else◌}
use Rattle.std.specs.Option.{option_map_or}
use Rattle.std.specs.FinMap.{get, entries}
use Rattle.path_order.specs.Path.{is_root, joined}
use Rattle.path_order.specs.Names.{is_name}
use Rattle.path_order.specs.NameList.{Listed}
use Rattle.loc_outside.specs.Trees.{Dir, Dirs}
use Rattle.tree_scan.specs.Admitted.{is_directory, fits_in, admitted, paths_in}
use Rattle.tree_scan.specs.Reach.{Test, is_open}
use Rattle.mlocate_db.specs.Items.{in_directory}
unfoldable pub use Rattle.tree_scan.specs.Steps.{here, next, walk, subtree}
use Rattle.tree_scan.proofs.Lists.{Each, each_more, each_map, each_filter, each_passes, flat_map_same}
use Rattle.tree_scan.proofs.Order.{NoSlash}

-- a name that may stand in a path
pub record IsGood (path name : List ℕ) : Type 0 where
  pub long : 0 < length name
  pub slash : NoSlash name
  pub fits : length (joined path name) ≤ 4096

left : (a b : Bool) → (a && b) ≡ true → a ≡ true
left true b p = refl
left false b p = p

right : (a b : Bool) → (a && b) ≡ true → b ≡ true
right true b p = p
right false b p = absurd (true≢false (sym p))

not_true : (b : Bool) → not b ≡ true → b ≡ false
not_true true e = sym e
not_true false e = refl

pub good : (path name : List ℕ) → fits_in path name ≡ true → IsGood path name
good path name h =
    let named = left (is_name name) _ h in
    let first = left _ _ (left _ _ (left _ _ (left _ _ named))) in
    record {
      long = ltb-true _ _ first;
      slash = not_true _ (right (nat_lt 0 (length name)) _ (left _ _ (left _ _ (left _ _ named))));
      fits = leb-true _ _ (right (is_name name) _ h);
    }

pub joined_is : (path name : List ℕ) → joined path name ≡ in_directory path ++ name
joined_is path name = by (is_root path)
  where
    by : (b : Bool) → (if b then path ++ name else path ++ 47 ∷ name) ≡ (if b then path else path ++ 47 ∷ []) ++ name
    by true = refl
    by false = sym (append_assoc path (47 ∷ []) name)

-- the names of an admitted listing are good
pub admitted_good : (path : List ℕ) (dir : Dir) → Each (λ e. IsGood path e.0) (admitted path dir)
admitted_good path dir =
    each_more _ _ (λ e h. good path e.0 h) _ (each_passes (λ e. fits_in path e.0) (entries dir.names))

-- a path below another: longer, not too long, and no root
pub record IsBelow (path child : List ℕ) : Type 0 where
  pub longer : length path < length child
  pub fits : length child ≤ 4096

longer_joined : (path name : List ℕ) → 0 < length name → length path < length (joined path name)
longer_joined path name h = by (is_root path)
  where
    by : (b : Bool) → length path < length (if b then path ++ name else path ++ 47 ∷ name)
    by true = omega (arith, h, length-append path name)
    by false = omega (arith, h, length-append path (47 ∷ name))

pub good_below : (path name : List ℕ) → IsGood path name → IsBelow path (joined path name)
good_below path name h = record { longer = longer_joined path name h.long; fits = h.fits }

pub paths_good : (path : List ℕ) (names : Listed) → Each (λ e. IsGood path e.0) names → Each (IsBelow path) (paths_in path names)
paths_good path names h =
    each_map (IsBelow path) (λ e. joined path e.0) (filter (λ e. is_directory e.1) names)
    (each_more _ _ (λ e g. good_below path e.0 g) _ (each_filter (λ e. IsGood path e.0) (λ e. is_directory e.1) names h))

next_by : (P : List ℕ → Type 0) (pruned : List ℕ → Bool) (path : List ℕ) (found : Option Dir) → ((dir : Dir) → found ≡ Some dir → Each P (paths_in path (admitted path dir)))
    → Each P (option_map_or (λ dir. cond (is_open pruned path dir) (paths_in path (admitted path dir)) []) found [])
next_by P pruned path None f = tt
next_by P pruned path (Some dir) f = by (is_open pruned path dir)
  where
    by : (b : Bool) → Each P (cond b (paths_in path (admitted path dir)) [])
    by true = f dir refl
    by false = tt

pub next_below : (dirs : Dirs) (pruned : List ℕ → Bool) (path : List ℕ) → Each (IsBelow path) (next dirs pruned path)
next_below dirs pruned path = next_by (IsBelow path) pruned path (get dirs path) (λ dir e. paths_good path (admitted path dir) (admitted_good path dir))

-- with enough fuel, more changes nothing
pub walk_enough : (dirs : Dirs) (pruned : List ℕ → Bool) (last : Test) (k : ℕ) (path : List ℕ) → 4097 ≤ k + length path → length path ≤ 4096
    → walk dirs pruned last k path ≡ walk dirs pruned last (suc k) path
unfolding walk
walk_enough dirs pruned last zero path enough fits = absurd (omega (arith, enough, fits))
walk_enough dirs pruned last (suc k) path enough fits =
    ap (λ (l : List (List ℕ × Dir)). here dirs last path ++ l)
    (flat_map_same (walk dirs pruned last k) (walk dirs pruned last (suc k)) (next dirs pruned path)
    (each_more _ _ (λ c h. walk_enough dirs pruned last k c (omega (arith, enough, h.longer)) h.fits) _ (next_below dirs pruned path)))

pub subtree_is : (dirs : Dirs) (pruned : List ℕ → Bool) (last : Test) (path : List ℕ) → length path ≤ 4096
    → subtree dirs pruned last path ≡ here dirs last path ++ flat_map (subtree dirs pruned last) (next dirs pruned path)
unfolding walk subtree
subtree_is dirs pruned last path fits =
    ap (λ (l : List (List ℕ × Dir)). here dirs last path ++ l)
    (flat_map_same (walk dirs pruned last 4096) (walk dirs pruned last 4097) (next dirs pruned path)
    (each_more _ _ (λ c h. walk_enough dirs pruned last 4096 c (omega (arith, h.longer)) h.fits) _ (next_below dirs pruned path)))
