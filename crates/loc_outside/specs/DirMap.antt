-- Directories of a list.
use Rattle.std.specs.Prelude.{ℕ, List, [], drop, slice_get, None, Some}
use Rattle.std.specs.declared.option.Option.{Option}
use Rattle.std.specs.FinMap.{entries}
use Rattle.std.specs.Option.{option_map, option_map_or}
use Rattle.path_order.specs.NameList.{Listed}
use Rattle.loc_outside.specs.declared.memory.dir_map.TreeDir.{TreeDir}
use Rattle.loc_outside.specs.declared.memory.keyed.Keyed.{Keyed}
use Rattle.loc_outside.specs.Keyed.{map_by}
use Rattle.loc_outside.specs.Trees.{Dir, Dirs}

-- what is known of a directory
abbrev pub dir_of : TreeDir → Dir
dir_of dir = record { times = dir.times; hidden = dir.hidden; names = dir.names }

-- directories by paths
abbrev pub dirs_of : List (Keyed TreeDir) → Dirs
dirs_of items = map_by dir_of items

-- the directory at a place in the order of paths by their bytes
abbrev pub dir_at : Dirs → ℕ → Option Dir
dir_at dirs place = option_map (λ entry. entry.1) (slice_get (entries dirs) place)

-- the names that are left of the directory at a place after so many of them were given
abbrev pub rest_of : Dirs → Option ℕ → ℕ → Listed
rest_of dirs None given = []
rest_of dirs (Some place) given = drop given (option_map_or (λ dir. entries dir.names) (dir_at dirs place) [])
