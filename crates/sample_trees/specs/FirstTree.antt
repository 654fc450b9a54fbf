-- The directories before any edit.
use Rattle.std.specs.Prelude.{ℕ, ◌+◌, ◌-◌, ◌*◌, min, false, List, ◌++◌, map, fold}
use Rattle.std.specs.FinMap.{insert, empty}
use Rattle.std.specs.List.{range_with_len}
use Rattle.path_order.specs.declared.kind.Kind.TheVariants.{File, Directory}
use Rattle.path_order.specs.NameList.{Listed}
use Rattle.loc_outside.specs.declared.traits.tree.Times.{Times}
use Rattle.loc_outside.specs.Trees.{Names, Dir, Dirs}
use Rattle.sample_trees.specs.Naming.{numbered_from, directory_path}
use Rattle.sample_trees.specs.Numbers.{drawn}

-- times that are both so many seconds
abbrev pub times_at : ℕ → Times
times_at seconds = record { modified = record { seconds = seconds; nanos = 0 }; changed = record { seconds = seconds; nanos = 0 } }

-- names after these were put in
abbrev pub with_listed : Listed → Names → Names
with_listed listed names = fold (λ into entry. insert into entry.0 entry.1) names listed

-- a directory after these names were put in
abbrev pub with_more : Listed → Dir → Dir
with_more listed dir = record { times = dir.times; hidden = dir.hidden; names = with_listed listed dir.names }

-- `f` and a number for each file, `d` and a number for each directory in the one of this number: directories 0
-- to 249 have 8 each, the others none
abbrev pub first_names : ℕ → ℕ → Listed
first_names number files = numbered_from 102 File 0 files ++ numbered_from 100 Directory (8 * number + 1) (min 8 (2000 - 8 * number))

-- a directory before any edit, by its number and how many files it has
abbrev pub first_dir : ℕ → ℕ → Dir
first_dir number files = record { times = times_at 1000000; hidden = false; names = with_listed (first_names number files) empty }

-- the path of the directory of this number, and the directory, with as many files as are drawn for it
abbrev pub first_entry : ℕ → ℕ → List ℕ × Dir
first_entry seed number = (directory_path number, first_dir number (drawn seed number 8))

-- the directories of the first so many numbers
abbrev pub dirs_below : ℕ → ℕ → Dirs
dirs_below seed count = fold (λ into entry. insert into entry.0 entry.1) empty (map (first_entry seed) (range_with_len 0 count))

-- the 2,001 directories
unfoldable pub first_dirs : ℕ → Dirs
first_dirs seed = dirs_below seed 2001
