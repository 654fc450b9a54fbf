-- What a walk comes to: paths that are normal and rise, each with the directory that stands there.
use Rattle.std.proofs.Common.{◌≡◌, ℕ, zero, suc, Bool, true, List, filter, subst, Some}
use Rattle.std.specs.FinMap.{get, entries}
use Rattle.path_order.specs.declared.kind.Kind.{Kind}
use Rattle.path_order.specs.Path.{is_normal, joined}
use Rattle.loc_outside.specs.Trees.{Dir, Dirs}
use Rattle.tree_scan.specs.Admitted.{admitted, fits_in, is_directory, paths_in}
use Rattle.tree_scan.specs.Reach.{Test, led}
use Rattle.tree_scan.specs.Steps.{here, next, walk, subtree}
use Rattle.tree_scan.proofs.Lists.{Each, Rises, each_append, each_filter, each_flat_map, each_map, each_more, each_passes}
use Rattle.tree_scan.proofs.Same.{walk_is_led}
use Rattle.tree_scan.proofs.Sorted.{ByPath, here_by, next_by, walk_rises}
use Rattle.tree_scan.proofs.Texts.{child_normal, normal_fits}

pub record IsFound (dirs : Dirs) (last : Test) (e : List ℕ × Dir) : Type 0 where
  pub normal : is_normal e.0 ≡ true
  pub found : get dirs e.0 ≡ Some e.1
  pub passes : last e.0 e.1 ≡ true

pub admitted_fits : (path : List ℕ) (dir : Dir) → Each (λ (n : List ℕ × Kind). fits_in path n.0 ≡ true) (admitted path dir)
admitted_fits path dir = each_passes (λ (n : List ℕ × Kind). fits_in path n.0) (entries dir.names)

abbrev Normal : List ℕ → Type 0
Normal path = is_normal path ≡ true

children_normal : (path : List ℕ) (dir : Dir) → Normal path → Each Normal (paths_in path (admitted path dir))
children_normal path dir h =
    each_map Normal (λ (n : List ℕ × Kind). joined path n.0) (filter (λ (n : List ℕ × Kind). is_directory n.1) (admitted path dir))
    (each_more _ _ (λ n fits. child_normal path n.0 h fits) _ (each_filter (λ (n : List ℕ × Kind). fits_in path n.0 ≡ true) (λ (n : List ℕ × Kind). is_directory n.1) (admitted path dir) (admitted_fits path dir)))

next_normal : (dirs : Dirs) (pruned : List ℕ → Bool) (path : List ℕ) → Normal path → Each Normal (next dirs pruned path)
next_normal dirs pruned path h = next_by (Each Normal) tt pruned path (get dirs path) (λ dir. children_normal path dir h)

walk_finds : (dirs : Dirs) (pruned : List ℕ → Bool) (last : Test) (k : ℕ) (path : List ℕ) → Normal path → Each (IsFound dirs last) (walk dirs pruned last k path)
unfolding walk
walk_finds dirs pruned last zero path h = tt
walk_finds dirs pruned last (suc k) path h =
    each_append (IsFound dirs last) (here dirs last path) _
    (here_by (Each (IsFound dirs last)) tt last path (get dirs path) (λ dir f t. (record { normal = h; found = f; passes = t }, tt)))
    (each_flat_map (IsFound dirs last) (walk dirs pruned last k) (next dirs pruned path) (each_more _ _ (λ c n. walk_finds dirs pruned last k c n) _ (next_normal dirs pruned path h)))

pub led_found : (dirs : Dirs) (pruned : List ℕ → Bool) (last : Test) (root : List ℕ) → is_normal root ≡ true → Each (IsFound dirs last) (led dirs pruned last root)
unfolding subtree
led_found dirs pruned last root h = subst (Each (IsFound dirs last)) (walk_is_led dirs pruned last root (normal_fits root h)) (walk_finds dirs pruned last 4097 root h)

pub led_rises : (dirs : Dirs) (pruned : List ℕ → Bool) (last : Test) (root : List ℕ) → is_normal root ≡ true → Rises ByPath (led dirs pruned last root)
unfolding subtree
led_rises dirs pruned last root h = subst (Rises ByPath) (walk_is_led dirs pruned last root (normal_fits root h)) (walk_rises dirs pruned last 4097 root)
