-- Which directories are tried and reached: sets taken out of the map. What is pruned is a test on paths.
use Rattle.std.specs.Prelude.{ℕ, Bool, false, not, ◌&&◌, nat_eq, List, [], ◌∷◌, length, drop, if◌then◌else◌}
use Rattle.std.specs.Option.{option_map_or}
use Rattle.std.specs.List.{starts_with, slice_split}
use Rattle.std.specs.Str.{bytes_eq}
use Rattle.std.specs.FinMap.{FinMap, get, entries, from_entries, retain_keys}
use Rattle.path_order.specs.Path.{is_slash, joined}
use Rattle.path_order.specs.Order.{path_cmp}
use Rattle.loc_outside.specs.Trees.{Dir, Dirs}
use Rattle.mlocate_db.specs.Items.{in_directory}
use Rattle.tree_scan.specs.Admitted.{names_directory}

-- a test on a directory and its path
abbrev pub Test : Type 0
Test = List ℕ → Dir → Bool

-- a directory that is not pruned
abbrev pub is_tried : (List ℕ → Bool) → Test
is_tried pruned path dir = not (pruned path)

-- one that shows its names besides
abbrev pub is_open : (List ℕ → Bool) → Test
is_open pruned path dir = not (pruned path) && not dir.hidden

-- Whether names lead from a path down to a directory that passes a test: each step goes through an open directory that
-- has the next name as a directory's.
abbrev pub leads : Dirs → (List ℕ → Bool) → Test → List ℕ → List (List ℕ) → Bool
leads dirs pruned last path [] = option_map_or (λ dir. last path dir) (get dirs path) false
leads dirs pruned last path (name ∷ names) =
    option_map_or (λ dir. is_open pruned path dir && names_directory path dir name) (get dirs path) false && leads dirs pruned last (joined path name) names

-- whether a path is the root's, or goes on from it by names that lead to it
abbrev pub is_led : Dirs → (List ℕ → Bool) → Test → List ℕ → List ℕ → Bool
is_led dirs pruned last root path =
    if bytes_eq path root then leads dirs pruned last root []
    else starts_with nat_eq path (in_directory root) && leads dirs pruned last root (slice_split is_slash (drop (length (in_directory root)) path))

-- the directories in path order
abbrev pub in_path_order : Dirs → FinMap path_cmp Dir
in_path_order dirs = from_entries (entries dirs)

-- those that names lead to from the root, in path order
abbrev pub led : Dirs → (List ℕ → Bool) → Test → List ℕ → List (List ℕ × Dir)
led dirs pruned last root = entries (retain_keys (in_path_order dirs) (is_led dirs pruned last root))

-- the directories that are tried: there and not pruned, and the root or named by one that is reached
abbrev pub tried : Dirs → (List ℕ → Bool) → List ℕ → List (List ℕ × Dir)
tried dirs pruned root = led dirs pruned (is_tried pruned) root

-- the directories that are reached: tried, and showing their names
abbrev pub reached : Dirs → (List ℕ → Bool) → List ℕ → List (List ℕ × Dir)
reached dirs pruned root = led dirs pruned (is_open pruned) root
