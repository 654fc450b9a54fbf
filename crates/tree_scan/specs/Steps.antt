-- The steps of a walk that goes from a directory to those that it names.
use Rattle.std.specs.Prelude.{ℕ, zero, suc, Bool, not, cond, ◌&&◌, ◌+◌, length, if◌then◌else◌, List, [], ◌∷◌, ◌++◌}
use Rattle.std.specs.List.{filter, flat_map}
use Rattle.std.specs.Option.{option_map_or}
use Rattle.std.specs.FinMap.{get}
use Rattle.loc_outside.specs.Trees.{Dir, Dirs}
use Rattle.tree_scan.specs.Admitted.{admitted, paths_in}
use Rattle.tree_scan.specs.Reach.{Test, is_open, reached}

-- the directory at a path, where it passes a test
abbrev pub here : Dirs → Test → List ℕ → List (List ℕ × Dir)
here dirs last path = option_map_or (λ dir. cond (last path dir) ((path, dir) ∷ []) []) (get dirs path) []

-- the paths of the directories that an open directory names
abbrev pub next : Dirs → (List ℕ → Bool) → List ℕ → List (List ℕ)
next dirs pruned path = option_map_or (λ dir. cond (is_open pruned path dir) (paths_in path (admitted path dir)) []) (get dirs path) []

-- a directory, and then what is below each of the directories that it names, in the order of their names; so many levels
-- deep. No scan is defined by it: a law says that it comes to the directories that are tried.
unfoldable pub walk : Dirs → (List ℕ → Bool) → Test → ℕ → List ℕ → List (List ℕ × Dir)
walk dirs pruned last zero path = []
walk dirs pruned last (suc depth) path = here dirs last path ++ flat_map (walk dirs pruned last depth) (next dirs pruned path)

-- the same of all levels: a path of at most 4,096 bytes has no more
unfoldable pub subtree : Dirs → (List ℕ → Bool) → Test → List ℕ → List (List ℕ × Dir)
subtree dirs pruned last path = walk dirs pruned last 4097 path

-- the paths of the directories that these name
abbrev pub child_paths : List (List ℕ × Dir) → List (List ℕ)
child_paths dirs = flat_map (λ e. paths_in e.0 (admitted e.0 e.1)) dirs

-- how many of these paths are looked up and priced
abbrev pub weight : (List ℕ → Bool) → (List ℕ → Bool) → List (List ℕ) → ℕ
weight pruned priced paths = length (filter (λ p. not (pruned p) && priced p) paths)

-- how many candidates are priced: the root, and each directory's path that a reached one names and that is not pruned
abbrev pub priced_candidates : Dirs → (List ℕ → Bool) → (List ℕ → Bool) → List ℕ → ℕ
priced_candidates dirs pruned priced root = (if priced root then 1 else 0) + weight pruned priced (child_paths (reached dirs pruned root))
