-- What a run does.
use Rattle.std.specs.Prelude.{◌≡◌, ◌≢◌, ◌≤◌, ◌⊎◌, [], IsSome, Option, Some, None}
use Rattle.std.specs.Io.KnownBytes.{Appends}
use Rattle.path_order.specs.Stamp.{Moment}
use Rattle.loc_outside.specs.Causes.{Rose}
use Rattle.loc_outside.specs.Outside.{AppendsPart}
use Rattle.loc_outside.specs.Snapshot.{Snapshot}
use Rattle.tool_words.specs.Asked.{Asked, Updatedb, Locate, Convert, Exercise}
use Rattle.tool_words.specs.Convert.{ConvertAsked}
use Rattle.tool_words.specs.Exercise.{ExerciseAsked}
use Rattle.tool_words.specs.Locate.{LocateAsked}
use Rattle.tool_words.specs.Updatedb.{UpdatedbAsked}
use Rattle.locate_tools.specs.declared.answer.Cause.{Cause}
use Rattle.locate_tools.specs.declared.answer.Cause.TheVariants as causes
use Rattle.locate_tools.specs.declared.answer.Ending.{Ending}
use Rattle.locate_tools.specs.Calls.{CallMade, request_of, tool_called}
use Rattle.locate_tools.specs.ConvertRun.{ConvertRun, around_in as input_and_output}
use Rattle.locate_tools.specs.ExerciseRun.{ExerciseRun, written_in}
use Rattle.locate_tools.specs.LocateExact.{databases_of}
use Rattle.locate_tools.specs.LocateRun.{LocateDoes}
use Rattle.locate_tools.specs.RegexesAsked.{refusal_of}
use Rattle.locate_tools.specs.Standing.{Standing}
use Rattle.locate_tools.specs.Statuses.{status_of}
use Rattle.locate_tools.specs.Told.{told}
use Rattle.locate_tools.specs.UpdatedbRun.{UpdatedbRun, around_in}

-- the parts of a snapshot that `locate` sees, in which no path is counted
abbrev pub standing_in : Snapshot → Standing
standing_in o = record {
  files = o.files;
  given = o.given;
  reads_failed = o.reads_failed;
  tests = o.tests;
  asks = o.asks;
  gate_failed = o.gate_failed;
  taken = o.taken;
  held_back = o.held_back;
  writes_failed = o.writes_failed;
  matched = 0;
}

-- ---- by what the words ask for

-- The command line is invalid: the run ends with `Usage`, or with `OutOfMemory`.
pub record Refuses (ending : Ending) : Type 0 where
  pub cause : (ending.cause ≡ causes.Usage) ⊎ (ending.cause ≡ causes.OutOfMemory)
  pub outcomes : ending.outcomes ≡ []

-- They ask for a search of databases, or for their statistics.
pub record RunsLocate (asked : LocateAsked) (before : Snapshot) (ending : Ending) (after : Snapshot) : Type 0 where
  pub run : LocateDoes asked (standing_in before) (standing_in after) ending.outcomes ending.cause
  pub accepted : ending.cause ≡ causes.Usage → ⊥

-- They ask for a database of a tree.
pub record RunsUpdatedb (asked : UpdatedbAsked) (now : Moment) (before : Snapshot) (ending : Ending) (after : Snapshot) : Type 0 where
  pub run : UpdatedbRun asked now (around_in before) (around_in after) ending.cause
  pub accepted : ending.cause ≡ causes.Usage → ⊥
  pub outcomes : ending.outcomes ≡ []

-- They ask for a file in another format.
pub record RunsConvert (asked : ConvertAsked) (before : Snapshot) (ending : Ending) (after : Snapshot) : Type 0 where
  pub run : ConvertRun asked (input_and_output before) (input_and_output after) ending.cause
  pub accepted : ending.cause ≡ causes.Usage → ⊥
  pub outcomes : ending.outcomes ≡ []

-- They ask for an exercise.
pub record RunsExercise (asked : ExerciseAsked) (before : Snapshot) (ending : Ending) (after : Snapshot) : Type 0 where
  pub run : ExerciseRun asked (written_in before) (written_in after) ending.cause
  pub outcomes : ending.outcomes ≡ []

abbrev pub Works : Option Asked → Moment → Snapshot → Ending → Snapshot → Type 0
Works None now before ending after = Refuses ending
Works (Some (Locate asked)) now before ending after = RunsLocate asked before ending after
Works (Some (Updatedb asked)) now before ending after = RunsUpdatedb asked now before ending after
Works (Some (Convert asked)) now before ending after = RunsConvert asked before ending after
Works (Some (Exercise asked)) now before ending after = RunsExercise asked before ending after

-- What a run does: the work that its words ask for. Its status is that of the tool and the cause; standard error takes the
-- messages, or, where it failed, a first part of them; what was written to standard output has gone out, unless it failed or
-- something was held back before; no file that is read changes.
pub record Does (call : CallMade) (before : Snapshot) (ending : Ending) (after : Snapshot) : Type 0 where
  pub works : Works (request_of call) call.moment before ending after
  pub status : ending.status ≡ status_of (tool_called call) ending.cause
  pub tells : (Rose before.err_failed after.err_failed → ⊥) → Appends before.err_taken after.err_taken (told call ending.outcomes ending.cause)
  pub tells_part : AppendsPart before.err_taken after.err_taken (told call ending.outcomes ending.cause)
  pub passed_on : (Rose before.writes_failed after.writes_failed → ⊥) → before.held_back ≡ 0 → after.held_back ≡ 0
  pub files : after.files ≡ before.files
  pub err_later : before.err_failed ≤ after.err_failed

-- ---- what is not touched

-- `locate` does not touch the reader, the gate and standard output where memory ran out or an expression is refused, nor the
-- first two where the limit is 0; never the tree and the output.
pub record LeavesLocate (asked : LocateAsked) (cause : Cause) (reader tree gate output out : Type 0) : Type 0 where
  pub tree_same : tree
  pub output_same : output
  pub unopened : cause ≡ causes.OutOfMemory → reader × gate × out
  pub refused : IsSome (refusal_of asked) → reader × gate × out
  pub unasked : databases_of asked ≡ [] → reader × gate

-- `convert` never touches the tree, the gate and standard output, nor the output unless it is done or a write failed.
pub record LeavesConvert (cause : Cause) (tree gate output out : Type 0) : Type 0 where
  pub tree_same : tree
  pub gate_same : gate
  pub out_same : out
  pub unwritten : cause ≢ causes.Done → cause ≢ causes.WriteFault → output

-- Of the reader, the tree, the gate, the output and standard output, `exercise` touches the last alone, and none where memory ran out.
pub record LeavesExercise (cause : Cause) (reader tree gate output out : Type 0) : Type 0 where
  pub reader_same : reader
  pub tree_same : tree
  pub gate_same : gate
  pub output_same : output
  pub unwritten : cause ≡ causes.OutOfMemory → out

-- Which of the reader, the tree, the gate, the output and standard output are just as they were.
abbrev pub Leaves : Option Asked → Cause → (reader tree gate output out : Type 0) → Type 0
Leaves None cause reader tree gate output out = reader × tree × gate × output × out
Leaves (Some (Locate asked)) cause reader tree gate output out = LeavesLocate asked cause reader tree gate output out
Leaves (Some (Updatedb asked)) cause reader tree gate output out = gate
Leaves (Some (Convert asked)) cause reader tree gate output out = LeavesConvert cause tree gate output out
Leaves (Some (Exercise asked)) cause reader tree gate output out = LeavesExercise cause reader tree gate output out
