-- What contracts see of the forms in memory.
use Rattle.std.specs.Prelude.{ℕ, ◌+◌, Bool, false, not, ◌&&◌, ◌||◌, ◌==◌, nat_lt, nat_le, List, [], map, length, bytes_eq, min, None, Vec}
use Rattle.std.specs.List.{list_any}
use Rattle.loc_outside.specs.Causes.{last_count}
use Rattle.std.specs.FinMap.{empty}
use Rattle.path_order.specs.NameList.{Listed}
use Rattle.loc_outside.specs.Files.{Files}
use Rattle.loc_outside.specs.Gates.{Tests}
use Rattle.loc_outside.specs.Held.{Held}
use Rattle.loc_outside.specs.Trees.{Dirs}

-- the calls that are to fail by their numbers, the calls made, and the faults told
pub record Failures : Type 0 where
  pub due : List ℕ
  pub calls : ℕ
  pub faults : ℕ

-- no call is to fail, and none was made
abbrev pub no_failures : Failures
no_failures = record { due = []; calls = 0; faults = 0 }

-- whether the next call is to fail
abbrev pub is_due : Failures → Bool
is_due f = nat_lt f.calls last_count && list_any (λ n. n == f.calls + 1) f.due

-- one more call, which went through
abbrev pub called : Failures → Failures
called f = record { due = f.due; calls = min (f.calls + 1) last_count; faults = f.faults }

-- one more fault
abbrev pub faulted : Failures → Failures
faulted f = record { due = f.due; calls = f.calls; faults = min (f.faults + 1) last_count }

-- how many faults are told
abbrev pub fault_count : Failures → ℕ
fault_count f = min f.faults last_count

-- bytes that are left, and how many were given
pub record Lent : Type 0 where
  pub left : List ℕ
  pub given : ℕ

-- files, the bytes left of the open one, how many bytes were given, and the failures
pub record FilesState : Type 0 where
  pub files : Files
  pub left : List ℕ
  pub given : ℕ
  pub failures : Failures

-- the bytes taken, how many there is room for in all, and the failures
pub record SinkState : Type 0 where
  pub taken : List ℕ
  pub room : ℕ
  pub failures : Failures

-- a write of the piece is refused: the call is to fail, or the piece isn't empty and there is no room
abbrev pub refuses : SinkState → List ℕ → Bool
refuses s piece = is_due s.failures || nat_lt 0 (length piece) && nat_le s.room (length s.taken)

-- what is stored and pending, how many names were begun, and the failures
pub record OutputState : Type 0 where
  pub held : Held
  pub begins : ℕ
  pub failures : Failures

-- no file is stored, no name was begun, and no byte was taken
abbrev pub empty_output : OutputState
empty_output = record { held = record { stored = empty; name = None; pending = [] }; begins = 0; failures = no_failures }

-- the directories, the names that the open listing has still to give, whether one is open, the two counts, and the failures
pub record TreeState : Type 0 where
  pub dirs : Dirs
  pub rest : Listed
  pub listing : Bool
  pub openings : ℕ
  pub stats : ℕ
  pub failures : Failures

-- these directories, of which none was opened or looked up
abbrev pub fresh_tree : Dirs → TreeState
fresh_tree dirs = record { dirs = dirs; rest = []; listing = false; openings = 0; stats = 0; failures = no_failures }

-- other directories, of which none is open; the counts and the failures are the same
abbrev pub with_dirs : Dirs → TreeState → TreeState
with_dirs dirs tree = record { dirs = dirs; rest = []; listing = false; openings = tree.openings; stats = tree.stats; failures = tree.failures }

-- one more look-up, of which the count stands still at its last value
abbrev pub looked_up : TreeState → TreeState
looked_up tree = record tree { stats = min (tree.stats + 1) last_count }

-- the directories that are hidden, the paths that are lost, how often it was asked, and the failures
pub record GateState : Type 0 where
  pub hidden : List (List ℕ)
  pub lost : List (List ℕ)
  pub asks : ℕ
  pub failures : Failures

-- nothing is hidden or lost, and it was not asked
abbrev pub fresh_gate : GateState
fresh_gate = record { hidden = []; lost = []; asks = 0; failures = no_failures }

-- the bytes of each path
abbrev pub paths_of : {A : Type 0} → List (Vec ℕ A) → List (List ℕ)
paths_of paths = map (λ path. path.items) paths

-- whether the path is one of these
abbrev pub is_among : List (List ℕ) → List ℕ → Bool
is_among paths path = list_any (λ known. bytes_eq path known) paths

-- each directory that is not hidden is shown, and each path that is not lost exists, whether links are followed or not
abbrev pub tests_of : GateState → Tests
tests_of gate = record { shows = λ dir. not (is_among gate.hidden dir); exists = λ follow path. not (is_among gate.lost path) }

-- one more ask, of which the count stands still at its last value
abbrev pub asked : GateState → GateState
asked gate = record gate { asks = min (gate.asks + 1) last_count }
