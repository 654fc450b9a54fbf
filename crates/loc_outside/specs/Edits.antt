-- Edits of directories.
use Rattle.std.specs.Prelude.{ℕ, Bool, List, ◌&&◌, nat_le, length}
use Rattle.std.specs.Option.{option_map_or}
use Rattle.std.specs.FinMap.{get, insert, remove, empty}
use Rattle.path_order.specs.declared.kind.Kind.{Kind}
use Rattle.path_order.specs.Names.{is_name}
use Rattle.loc_outside.specs.declared.traits.tree.Times.{Times}
use Rattle.loc_outside.specs.Trees.{Names, Dir, Dirs}

-- a name that fits a path
abbrev pub fits : List ℕ → Bool
fits name = is_name name && nat_le (length name) 4096

-- the names of the directory at a path, or none where there is no directory
abbrev pub names_at : Dirs → List ℕ → Names
names_at dirs path = option_map_or (λ dir. dir.names) (get dirs path) empty

-- the directories after one was put, which keeps the names that it had
abbrev pub with_dir : Dirs → List ℕ → Times → Bool → Dirs
with_dir dirs path times hidden = insert dirs path (record { times = times; hidden = hidden; names = names_at dirs path })

-- the directories after the one at a path was changed, where there is one
abbrev pub changed_at : Dirs → List ℕ → (Dir → Dir) → Dirs
changed_at dirs path change = option_map_or (λ dir. insert dirs path (change dir)) (get dirs path) dirs

-- a directory after a name was put, in place of its kind where the name was there
abbrev pub with_name : List ℕ → Kind → Dir → Dir
with_name name kind dir = record { times = dir.times; hidden = dir.hidden; names = insert dir.names name kind }

-- a directory after a name was dropped, if it was there
abbrev pub without_name : List ℕ → Dir → Dir
without_name name dir = record { times = dir.times; hidden = dir.hidden; names = remove dir.names name }

-- a directory with other times
abbrev pub with_times : Times → Dir → Dir
with_times times dir = record { times = times; hidden = dir.hidden; names = dir.names }
