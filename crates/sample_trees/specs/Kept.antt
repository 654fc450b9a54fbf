-- What an update may rely on in the directories of a sample.
use Rattle.std.specs.Prelude.{◌≡◌, ℕ, false, List, Some}
use Rattle.std.specs.FinMap.{get}
use Rattle.path_order.specs.Stamp.{Moment, later_of}
use Rattle.loc_outside.specs.Trees.{Dir, Dirs}

-- no directory hides its names
abbrev pub AllShown : Dirs → Type 0
AllShown dirs = (path : List ℕ) (dir : Dir) → get dirs path ≡ Some dir → dir.hidden ≡ false

-- the later of a directory's two times
abbrev pub changed_last : Dir → Moment
changed_last dir = later_of dir.times.modified dir.times.changed

-- a directory that has the same later time in both is the same in both
abbrev pub SameWhereTimesAgree : Dirs → Dirs → Type 0
SameWhereTimesAgree before after = (path : List ℕ) (old new : Dir) → get before path ≡ Some old → get after path ≡ Some new → changed_last old ≡ changed_last new → old ≡ new
