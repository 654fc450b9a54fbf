-- How large a sample is.
use Rattle.std.specs.Prelude.{◌≡◌, ◌≤◌, ℕ, List, [], ◌∷◌, length, IsSome, Some}
use Rattle.std.specs.FinMap.{get, entries}
use Rattle.loc_outside.specs.Trees.{Dir, Dirs}

-- the root is there, there are at most 2,001 directories, and each has at most so many names
pub record IsSmall (names : ℕ) (dirs : Dirs) : Type 0 where
  pub root_there : IsSome (get dirs (47 ∷ []))
  pub few : length (entries dirs) ≤ 2001
  pub narrow : (path : List ℕ) (dir : Dir) → get dirs path ≡ Some dir → length (entries dir.names) ≤ names
