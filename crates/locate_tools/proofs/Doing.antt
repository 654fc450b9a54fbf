-- What a run does, from its parts.
use Rattle.std.specs.Prelude.{◌≤◌}
use Rattle.std.proofs.Common.{◌≡◌, ℕ, List, [], Option, Some, None, inl, inr, sym, ap, subst, ◌∙◌}
use Rattle.std.specs.Io.KnownBytes.{Appends}
use Rattle.path_order.specs.Stamp.{Moment}
use Rattle.loc_outside.specs.Causes.{Rose}
use Rattle.loc_outside.specs.Outside.{AppendsPart}
use Rattle.loc_outside.specs.Snapshot.{Snapshot}
use Rattle.tool_words.specs.Asked.{Asked, Updatedb, Locate, Convert, Exercise}
use Rattle.tool_words.specs.Convert.{ConvertAsked}
use Rattle.tool_words.specs.Exercise.{ExerciseAsked}
use Rattle.tool_words.specs.Locate.{LocateAsked}
use Rattle.tool_words.specs.Updatedb.{UpdatedbAsked}
use Rattle.database_update.specs.Updates.{Around}
use Rattle.db_convert.specs.Converts.{Around as Converting}
use Rattle.locate_engine.specs.declared.outcome.Outcome.{Outcome}
use Rattle.locate_tools.specs.declared.answer.Cause.{Cause}
use Rattle.locate_tools.specs.declared.answer.Cause.TheVariants as causes
use Rattle.locate_tools.specs.declared.answer.Ending.{Ending}
use Rattle.locate_tools.specs.Calls.{CallMade, request_of, tool_called}
use Rattle.locate_tools.specs.Does.{Does, Leaves, LeavesConvert, LeavesExercise, LeavesLocate, RunsConvert, RunsExercise, RunsLocate, RunsUpdatedb, Works, standing_in}
use Rattle.locate_tools.specs.ConvertRun.{ConvertRun, around_in as input_and_output}
use Rattle.locate_tools.specs.ExerciseRun.{ExerciseRun, Written, written_in}
use Rattle.locate_tools.specs.LocateRun.{LocateDoes}
use Rattle.locate_tools.specs.Standing.{Standing}
use Rattle.locate_tools.specs.Statuses.{status_of}
use Rattle.locate_tools.specs.Told.{told}
use Rattle.locate_tools.specs.UpdatedbRun.{UpdatedbRun, around_in}
use Rattle.locate_tools.proofs.Converting.{converts_none}
use Rattle.locate_tools.proofs.Exercising.{exercises_none}
use Rattle.locate_tools.proofs.Runs.{does_nothing}
use Rattle.locate_tools.proofs.Updating.{run_none}

not_usage : (cause : Cause) → cause ≡ causes.OutOfMemory → cause ≡ causes.Usage → ⊥
not_usage cause is e = let both : causes.OutOfMemory ≡ causes.Usage = sym is ∙ e in absurd cc

-- ---- the work

-- the words ask for nothing
pub works_refused : (r : Option Asked) (now : Moment) (before : Snapshot) (ending : Ending) (after : Snapshot) → r ≡ None → ending.cause ≡ causes.Usage → ending.outcomes ≡ [] → Works r now before ending after
works_refused r now before ending after none is outcomes = subst (λ (x : Option Asked). Works x now before ending after) (sym none) (record { cause = inl is; outcomes = outcomes })

-- there was no memory for the words, and nothing was done
pub works_memory : (r : Option Asked) (now : Moment) (before : Snapshot) (ending : Ending) (after : Snapshot) → ending.cause ≡ causes.OutOfMemory → ending.outcomes ≡ []
    → standing_in after ≡ standing_in before → around_in after ≡ around_in before → input_and_output after ≡ input_and_output before → written_in after ≡ written_in before → Works r now before ending after
works_memory None now before ending after is outcomes standing around files written = record { cause = inr is; outcomes = outcomes }
works_memory (Some (Updatedb asked)) now before ending after is outcomes standing around files written = record {
  run = subst (λ (a : Around). UpdatedbRun asked now (around_in before) a ending.cause) (sym around) (run_none asked now (around_in before) ending.cause is);
  accepted = not_usage ending.cause is;
  outcomes = outcomes;
}
works_memory (Some (Locate asked)) now before ending after is outcomes standing around files written = record {
  run = subst (λ (s : Standing). LocateDoes asked (standing_in before) s ending.outcomes ending.cause) (sym standing)
      (subst (λ (os : List Outcome). LocateDoes asked (standing_in before) (standing_in before) os ending.cause) (sym outcomes)
      (subst (λ (cause : Cause). LocateDoes asked (standing_in before) (standing_in before) [] cause) (sym is) (does_nothing asked (standing_in before))));
  accepted = not_usage ending.cause is;
}
works_memory (Some (Convert asked)) now before ending after is outcomes standing around files written = record {
  run = subst (λ (a : Converting). ConvertRun asked (input_and_output before) a ending.cause) (sym files) (converts_none asked (input_and_output before) ending.cause is);
  accepted = not_usage ending.cause is;
  outcomes = outcomes;
}
works_memory (Some (Exercise asked)) now before ending after is outcomes standing around files written = record {
  run = subst (λ (o : Written). ExerciseRun asked (written_in before) o ending.cause) (sym written) (exercises_none asked (written_in before) ending.cause is);
  outcomes = outcomes;
}

pub works_locate : (r : Option Asked) (asked : LocateAsked) (now : Moment) (before : Snapshot) (ending : Ending) (after : Snapshot) → r ≡ Some (Locate asked) → RunsLocate asked before ending after → Works r now before ending after
works_locate r asked now before ending after is done = subst (λ (x : Option Asked). Works x now before ending after) (sym is) done

pub works_updatedb : (r : Option Asked) (asked : UpdatedbAsked) (now : Moment) (before : Snapshot) (ending : Ending) (after : Snapshot) → r ≡ Some (Updatedb asked) → RunsUpdatedb asked now before ending after → Works r now before ending after
works_updatedb r asked now before ending after is done = subst (λ (x : Option Asked). Works x now before ending after) (sym is) done

pub works_convert : (r : Option Asked) (asked : ConvertAsked) (now : Moment) (before : Snapshot) (ending : Ending) (after : Snapshot) → r ≡ Some (Convert asked) → RunsConvert asked before ending after → Works r now before ending after
works_convert r asked now before ending after is done = subst (λ (x : Option Asked). Works x now before ending after) (sym is) done

pub works_exercise : (r : Option Asked) (asked : ExerciseAsked) (now : Moment) (before : Snapshot) (ending : Ending) (after : Snapshot) → r ≡ Some (Exercise asked) → RunsExercise asked before ending after → Works r now before ending after
works_exercise r asked now before ending after is done = subst (λ (x : Option Asked). Works x now before ending after) (sym is) done

-- ---- the whole of it

-- what is told, of outcomes and a cause that are known
pub told_by : (call : CallMade) (os os' : List Outcome) (cause cause' : Cause) → os' ≡ os → cause' ≡ cause → told call os cause ≡ told call os' cause'
told_by call os os' cause cause' same is = ap (λ (l : List Outcome). told call l cause) (sym same) ∙ ap (told call os') (sym is)

pub does_by : (call : CallMade) (before : Snapshot) (ending : Ending) (after : Snapshot) (text : List ℕ) → Works (request_of call) call.moment before ending after
    → ending.status ≡ status_of (tool_called call) ending.cause → text ≡ told call ending.outcomes ending.cause
    → ((Rose before.err_failed after.err_failed → ⊥) → Appends before.err_taken after.err_taken text) → AppendsPart before.err_taken after.err_taken text
    → ((Rose before.writes_failed after.writes_failed → ⊥) → before.held_back ≡ 0 → after.held_back ≡ 0) → after.files ≡ before.files → before.err_failed ≤ after.err_failed
    → Does call before ending after
does_by call before ending after text works status same tells part passed files later = record {
  works = works;
  status = status;
  tells = λ none. subst (λ (x : List ℕ). Appends before.err_taken after.err_taken x) same (tells none);
  tells_part = subst (λ (x : List ℕ). AppendsPart before.err_taken after.err_taken x) same part;
  passed_on = passed;
  files = files;
  err_later = later;
}

-- ---- what is not touched

pub leaves_all : (r : Option Asked) (cause : Cause) (reader tree gate output out : Type 0) → reader → tree → gate → output → out → Leaves r cause reader tree gate output out
leaves_all None cause reader tree gate output out r t g o p = (r, t, g, o, p)
leaves_all (Some (Updatedb asked)) cause reader tree gate output out r t g o p = g
leaves_all (Some (Locate asked)) cause reader tree gate output out r t g o p = record { tree_same = t; output_same = o; unopened = λ _. (r, g, p); refused = λ _. (r, g, p); unasked = λ _. (r, g) }
leaves_all (Some (Convert asked)) cause reader tree gate output out r t g o p = record { tree_same = t; gate_same = g; out_same = p; unwritten = λ _ _. o }
leaves_all (Some (Exercise asked)) cause reader tree gate output out r t g o p = record { reader_same = r; tree_same = t; gate_same = g; output_same = o; unwritten = λ _. p }

pub leaves_locate : (r : Option Asked) (asked : LocateAsked) (cause : Cause) (reader tree gate output out : Type 0) → r ≡ Some (Locate asked) → LeavesLocate asked cause reader tree gate output out → Leaves r cause reader tree gate output out
leaves_locate r asked cause reader tree gate output out is left = subst (λ (x : Option Asked). Leaves x cause reader tree gate output out) (sym is) left

pub leaves_updatedb : (r : Option Asked) (asked : UpdatedbAsked) (cause : Cause) (reader tree gate output out : Type 0) → r ≡ Some (Updatedb asked) → gate → Leaves r cause reader tree gate output out
leaves_updatedb r asked cause reader tree gate output out is left = subst (λ (x : Option Asked). Leaves x cause reader tree gate output out) (sym is) left

pub leaves_convert : (r : Option Asked) (asked : ConvertAsked) (cause : Cause) (reader tree gate output out : Type 0) → r ≡ Some (Convert asked) → LeavesConvert cause tree gate output out → Leaves r cause reader tree gate output out
leaves_convert r asked cause reader tree gate output out is left = subst (λ (x : Option Asked). Leaves x cause reader tree gate output out) (sym is) left

pub leaves_exercise : (r : Option Asked) (asked : ExerciseAsked) (cause : Cause) (reader tree gate output out : Type 0) → r ≡ Some (Exercise asked) → LeavesExercise cause reader tree gate output out → Leaves r cause reader tree gate output out
leaves_exercise r asked cause reader tree gate output out is left = subst (λ (x : Option Asked). Leaves x cause reader tree gate output out) (sym is) left
