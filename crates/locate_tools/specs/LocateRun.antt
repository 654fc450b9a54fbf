-- What a run of `locate` does, whatever failed.
use Rattle.std.specs.Prelude.{◌≡◌, ℕ, ◌+◌, ◌≤◌, ◌⊎◌, min, Bool, true, false, List, [], ◌∷◌, ◌++◌, Option, Some, IsTrue, MatchOption, decimal, length, filter, if◌then◌else◌}
use Rattle.std.specs.List.{list_any}
use Rattle.std.specs.Io.KnownBytes.{Appends}
use Rattle.loc_outside.specs.Causes.{Rose, last_count}
use Rattle.loc_outside.specs.Files.{Files}
use Rattle.loc_outside.specs.Outside.{AppendsPart}
use Rattle.tool_words.specs.Locate.{LocateAsked}
use Rattle.locate_engine.specs.declared.outcome.Outcome.{Outcome}
use Rattle.locate_engine.specs.declared.outcome.Outcome.TheVariants as outcomes
use Rattle.locate_tools.specs.Standing.{Standing, Goes, IsComplete}
use Rattle.locate_tools.specs.Counted.{CountsAll}
use Rattle.locate_tools.specs.LocateExact.{World, Locates, may_ask_gate, query_of, databases_of, cause_of, work_of}
use Rattle.locate_tools.specs.RegexesAsked.{refusal_of}
use Rattle.locate_tools.specs.Tried.{NoneFailed, Tried}
use Rattle.locate_tools.specs.declared.answer.Cause.{Cause}
use Rattle.locate_tools.specs.declared.answer.Cause.TheVariants as causes

abbrev pub is_write_fault : Outcome → Bool
is_write_fault outcomes.WriteFault = true
is_write_fault outcome = false

-- the number of paths is written in place of the paths
abbrev pub numbers : LocateAsked → Bool
numbers asked = if asked.statistics then false else asked.count_only

abbrev pub number_text : LocateAsked → ℕ → List ℕ
number_text asked matched = if numbers asked then decimal matched ++ 10 ∷ [] else []

-- the cause of a run in which no write failed
abbrev pub cause_after : LocateAsked → ℕ → Cause
cause_after asked matched = if asked.statistics then causes.Done else cause_of asked.limit matched

-- The end of a run, after its databases: a failed write ends it; otherwise the number of paths, where it is asked for, is
-- written and has gone out, and the cause is told by what was found, unless that write fails.
pub record Concludes (asked : LocateAsked) (outcomes : List Outcome) (matched : ℕ) (taken taken' : Option (List ℕ)) (held held' failed failed' : ℕ) (cause : Cause) : Type 0 where
  pub later : failed ≤ failed'
  pub stops : list_any is_write_fault outcomes ≡ true → (cause ≡ causes.WriteFault) × (taken' ≡ taken)
  pub writes : list_any is_write_fault outcomes ≡ false → (cause ≡ causes.WriteFault → ⊥) → (cause ≡ cause_after asked matched) × Appends taken taken' (number_text asked matched)
  pub breaks : list_any is_write_fault outcomes ≡ false → cause ≡ causes.WriteFault → IsTrue (numbers asked) × (Rose failed failed' × AppendsPart taken taken' (number_text asked matched))
  pub passed_on : (cause ≡ causes.WriteFault → ⊥) → held ≡ 0 → held' ≡ 0
  pub number_passed_on : (cause ≡ causes.WriteFault → ⊥) → IsTrue (numbers asked) → held' ≡ 0

-- A run of `locate`: its databases were tried one after another, each from where the one before left the run, and then it
-- ended.
pub record LocateRan (asked : LocateAsked) (s s' : Standing) (outcomes : List Outcome) (cause : Cause) : Type 0 where
  pub after : Standing
  pub goes : Goes (Tried (work_of asked) (query_of asked)) (databases_of asked) outcomes s after
  pub complete : IsComplete (databases_of asked) outcomes
  pub concludes : Concludes asked outcomes after.matched after.taken s'.taken after.held_back s'.held_back after.writes_failed s'.writes_failed cause
  pub given : s'.given ≡ after.given
  pub asks : s'.asks ≡ after.asks
  pub reads_failed : s'.reads_failed ≡ after.reads_failed
  pub gate_failed : s'.gate_failed ≡ after.gate_failed

abbrev pub is_read_fault : Outcome → Bool
is_read_fault outcomes.ReadFault = true
is_read_fault outcome = false

abbrev pub is_gate_fault : Outcome → Bool
is_gate_fault outcomes.GateFault = true
is_gate_fault outcome = false

-- A run of `locate`, and the conditions for each of its results. Where memory ran out there are no outcomes. Where no call
-- failed, exactly what the files and the gate's tests say was printed and answered, whatever the tests are where the gate is
-- not asked; or exactly the statistics of the files were written. There are no more outcomes of a failed read, or of a
-- failed gate, than such calls failed, up to the last count that can be told. A failed write is the cause where it is an
-- outcome, and else only where the number of paths is written; where no write failed, nothing is held back that was not
-- before.
pub record LocateRun (asked : LocateAsked) (s s' : Standing) (outcomes : List Outcome) (cause : Cause) : Type 0 where
  pub no_memory : cause ≡ causes.OutOfMemory → outcomes ≡ []
  pub ran : (cause ≡ causes.OutOfMemory → ⊥) → LocateRan asked s s' outcomes cause
  pub exact : (cause ≡ causes.OutOfMemory → ⊥) → asked.statistics ≡ false → (world : World) → s.files ≡ Some world.files → (IsTrue (may_ask_gate asked world.files (databases_of asked)) → s.tests ≡ Some world.tests) → NoneFailed s s'
      → Locates asked world s.taken s'.taken outcomes cause
  pub counted : (cause ≡ causes.OutOfMemory → ⊥) → asked.statistics ≡ true → (files : Files) → s.files ≡ Some files → NoneFailed s s'
      → CountsAll asked files s.taken s'.taken outcomes cause
  pub read_faults : min (s.reads_failed + length (filter is_read_fault outcomes)) last_count ≤ s'.reads_failed
  pub gate_faults : min (s.gate_failed + length (filter is_gate_fault outcomes)) last_count ≤ s'.gate_failed
  pub write_fault : cause ≡ causes.WriteFault → Rose s.writes_failed s'.writes_failed
  pub write_failed : list_any is_write_fault outcomes ≡ true → cause ≡ causes.WriteFault
  pub number_only : cause ≡ causes.WriteFault → list_any is_write_fault outcomes ≡ false → IsTrue (numbers asked)
  pub passed_on : (Rose s.writes_failed s'.writes_failed → ⊥) → s.held_back ≡ 0 → s'.held_back ≡ 0

-- An expression of the words is refused: that is the cause, unless memory ran out, and nothing was done.
pub record RefusesRegex (refusal : Cause) (s s' : Standing) (outcomes : List Outcome) (cause : Cause) : Type 0 where
  pub answer : (cause ≡ refusal) ⊎ (cause ≡ causes.OutOfMemory)
  pub none : outcomes ≡ []
  pub same : s' ≡ s

-- What `locate` does: a run, unless an expression is refused.
abbrev pub LocateDoes : LocateAsked → Standing → Standing → List Outcome → Cause → Type 0
LocateDoes asked s s' outcomes cause =
    MatchOption (refusal_of asked) (LocateRun asked s s' outcomes cause) (λ refusal. RefusesRegex refusal s s' outcomes cause)
