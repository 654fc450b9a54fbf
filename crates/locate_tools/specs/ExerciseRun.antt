-- What a run of `exercise` does.
use Rattle.std.specs.Prelude.{◌≡◌, ℕ, List, [], ◌∷◌, Option, codes, decimal}
use Rattle.std.specs.List.{concat}
use Rattle.std.specs.Io.KnownBytes.{Appends}
use Rattle.loc_outside.specs.Causes.{Rose}
use Rattle.loc_outside.specs.Outside.{AppendsPart}
use Rattle.loc_outside.specs.Snapshot.{Snapshot}
use Rattle.tool_words.specs.Exercise.{ExerciseAsked}
use Rattle.update_runs.specs.declared.exercising.Exercised.{Exercised}
use Rattle.update_runs.specs.Exercises.{exercised}
use Rattle.locate_tools.specs.declared.answer.Cause.{Cause}
use Rattle.locate_tools.specs.declared.answer.Cause.TheVariants as causes

-- four lines, each with a number, given by its digits
unfoldable pub lines_of : (rounds directories opened bytes : List ℕ) → List ℕ
lines_of rounds directories opened bytes = concat (
    codes "rounds " ∷ rounds
    ∷ codes "\ndirectories " ∷ directories
    ∷ codes "\nopened " ∷ opened
    ∷ codes "\nbytes " ∷ bytes
    ∷ codes "\n" ∷ [])

-- what an exercise comes to, as `exercise` writes it
abbrev pub text_of : Exercised → List ℕ
text_of shown = lines_of (decimal shown.rounds) (decimal shown.directories) (decimal shown.opened) (decimal shown.bytes)

-- what is written when this exercise is asked for
abbrev pub text_asked : ExerciseAsked → List ℕ
text_asked asked = text_of (exercised asked.number asked.rounds)

-- standard output, as a run sees it
pub record Written : Type 0 where
  pub taken : Option (List ℕ)
  pub held_back : ℕ
  pub failed : ℕ

-- the part of a snapshot that an exercise sees
abbrev pub written_in : Snapshot → Written
written_in o = record { taken = o.taken; held_back = o.held_back; failed = o.writes_failed }

-- how an exercise can end
abbrev pub Ends : Cause → Written → Written → Type 0
Ends causes.Done o o' = o'.held_back ≡ 0
Ends causes.WriteFault o o' = Rose o.failed o'.failed
Ends causes.OutOfMemory o o' = o' ≡ o
Ends cause o o' = ⊥

-- A run of `exercise` that ended so: if it is done, the text of the exercise was written and has gone out; if a write failed, a
-- first part of it, perhaps all, was written; if memory ran out, nothing. It ends in no other way.
pub record ExerciseRun (asked : ExerciseAsked) (o o' : Written) (cause : Cause) : Type 0 where
  pub printed : cause ≡ causes.Done → Appends o.taken o'.taken (text_asked asked)
  pub printed_part : AppendsPart o.taken o'.taken (text_asked asked)
  pub ends : Ends cause o o'
