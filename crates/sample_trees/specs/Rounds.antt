-- Rounds of edits.
use Rattle.std.specs.Prelude.{ℕ, zero, suc, ◌+◌, ◌-◌, ◌*◌, ◌==◌, Bool, true, false, List, map, fold, find, if◌then◌else◌}
use Rattle.std.specs.declared.option.Option.{Option}
use Rattle.std.specs.FinMap.{entries, insert, remove}
use Rattle.std.specs.List.{range_with_len}
use Rattle.std.specs.Option.{option_map, option_map_or}
use Rattle.path_order.specs.declared.kind.Kind.{Kind}
use Rattle.path_order.specs.declared.kind.Kind.TheVariants.{File, Directory}
use Rattle.path_order.specs.NameList.{Listed}
use Rattle.loc_outside.specs.Edits.{changed_at, with_times}
use Rattle.loc_outside.specs.Trees.{Names, Dir, Dirs}
use Rattle.sample_trees.specs.FirstTree.{times_at, first_dirs}
use Rattle.sample_trees.specs.Naming.{added_name, directory_path}
use Rattle.sample_trees.specs.Numbers.{drawn}

-- an edit of a directory: 0 to add a file, 1 to take one away, 2 for neither; the name that 0 adds; and the new time, in seconds
pub record Edit : Type 0 where
  pub path : List ℕ
  pub change : ℕ
  pub added : List ℕ
  pub seconds : ℕ

abbrev pub is_file : Kind → Bool
is_file File = true
is_file Directory = false

-- the first file of a list
abbrev pub first_in : Listed → Option (List ℕ)
first_in listed = option_map (λ entry. entry.0) (find (λ entry. is_file entry.1) listed)

-- the file that comes first in the order of bytes
abbrev pub first_file : Names → Option (List ℕ)
first_file names = first_in (entries names)

-- the names without the first file
abbrev pub without_first_file : Names → Names
without_first_file names = option_map_or (remove names) (first_file names) names

-- the names after a change, which may add this one
abbrev pub names_after : ℕ → List ℕ → Names → Names
names_after change added names = if change == 0 then insert names added File else if change == 1 then without_first_file names else names

-- a directory after a change
abbrev pub with_change : ℕ → List ℕ → Dir → Dir
with_change change added dir = record { times = dir.times; hidden = dir.hidden; names = names_after change added dir.names }

-- a directory after an edit
abbrev pub edited : Edit → Dir → Dir
edited edit dir = with_times (times_at edit.seconds) (with_change edit.change edit.added dir)

-- the directories after edits
abbrev pub after_edits : List Edit → Dirs → Dirs
after_edits edits dirs = fold (λ now edit. changed_at now edit.path (edited edit)) dirs edits

-- the moment of a round, in seconds
unfoldable pub seconds_of : ℕ → ℕ
seconds_of round = 2000000 + 100 * round

-- the edit of a round that the three draws after so many others give
unfoldable pub edit_drawn : ℕ → ℕ → ℕ → ℕ → Edit
edit_drawn seed before round place =
    record { path = directory_path (drawn seed before 2001); change = drawn seed (before + 1) 3; added = added_name round place; seconds = seconds_of round - drawn seed (before + 2) 8 }

-- the first so many edits of a round that begins after so many draws
abbrev pub edits_drawn : ℕ → ℕ → ℕ → ℕ → List Edit
edits_drawn seed before round count = map (λ place. edit_drawn seed (before + 3 * place) round place) (range_with_len 0 count)

-- the directories after a round of ten edits that begins after so many draws
unfoldable pub after_round : ℕ → ℕ → ℕ → Dirs → Dirs
after_round seed before round dirs = after_edits (edits_drawn seed before round 10) dirs

-- the directories after so many rounds
unfoldable pub dirs_after : ℕ → ℕ → Dirs
dirs_after seed zero = first_dirs seed
dirs_after seed (suc rounds) = after_round seed (2001 + 30 * rounds) (suc rounds) (dirs_after seed rounds)
