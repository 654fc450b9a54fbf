-- Runs of `exercise`.
use Rattle.std.proofs.Common.{◌≡◌, ◌≤◌, ℕ, List, Option, refl, sym, ap, subst, ◌∙◌}
use Rattle.std.specs.Io.KnownBytes.{Appends}
use Rattle.loc_outside.specs.Causes.{Rose}
use Rattle.loc_outside.proofs.PartTaken.{part_all, part_none}
use Rattle.tool_words.specs.Exercise.{ExerciseAsked}
use Rattle.locate_tools.specs.declared.answer.Cause.{Cause}
use Rattle.locate_tools.specs.declared.answer.Cause.TheVariants as causes
use Rattle.locate_tools.specs.ExerciseRun.{Ends, ExerciseRun, Written, text_asked, text_of}
use Rattle.update_runs.specs.declared.exercising.Exercised.{Exercised}
use Rattle.update_runs.specs.Exercises.{exercised}
use Rattle.locate_tools.proofs.Finding.{rose_second}

-- memory ran out, and nothing was done
pub exercises_none : (asked : ExerciseAsked) (o : Written) (cause : Cause) → cause ≡ causes.OutOfMemory → ExerciseRun asked o o cause
exercises_none asked o cause is = record {
  printed = λ done. absurd cc;
  printed_part = part_none o.taken (text_asked asked);
  ends = subst (λ (c : Cause). Ends c o o) (sym is) refl;
}

ends_passed : (cause : Cause) (o o' : Written) → Ends cause o o' → (Rose o.failed o'.failed → ⊥) → o.held_back ≡ 0 → o'.held_back ≡ 0
ends_passed causes.Done o o' ends sound none = ends
ends_passed causes.WriteFault o o' ends sound none = absurd (sound ends)
ends_passed causes.OutOfMemory o o' ends sound none = ap (λ (w : Written). w.held_back) ends ∙ none
ends_passed cause o o' ends sound none = absurd ends

-- all goes out, unless a write failed or something was held back before
pub exercise_passes_on : (asked : ExerciseAsked) (o o' : Written) (cause : Cause) → ExerciseRun asked o o' cause → (Rose o.failed o'.failed → ⊥) → o.held_back ≡ 0 → o'.held_back ≡ 0
exercise_passes_on asked o o' cause run sound none = ends_passed cause o o' run.ends sound none

-- ---- what was written

written : (asked : ExerciseAsked) (o p o' : Written) (shown : Exercised) → shown ≡ exercised asked.number asked.rounds → Appends o.taken p.taken (text_of shown) → o'.taken ≡ p.taken → Appends o.taken o'.taken (text_asked asked)
written asked o p o' shown is wrote same =
    subst (λ (taken : Option (List ℕ)). Appends o.taken taken (text_asked asked)) (sym same) (subst (λ (x : Exercised). Appends o.taken p.taken (text_of x)) is wrote)

-- it was written and has gone out
pub exercise_done : (asked : ExerciseAsked) (o p o' : Written) (shown : Exercised) → shown ≡ exercised asked.number asked.rounds → Appends o.taken p.taken (text_of shown) → o'.taken ≡ p.taken → o'.held_back ≡ 0
    → ExerciseRun asked o o' causes.Done
exercise_done asked o p o' shown is wrote same flushed =
    let all = written asked o p o' shown is wrote same in
    record { printed = λ done. all; printed_part = part_all o.taken o'.taken (text_asked asked) all; ends = flushed }

-- it was written, and did not go out
pub exercise_unflushed : (asked : ExerciseAsked) (o p o' : Written) (shown : Exercised) → shown ≡ exercised asked.number asked.rounds → Appends o.taken p.taken (text_of shown) → o'.taken ≡ p.taken
    → o.failed ≤ p.failed → Rose p.failed o'.failed → ExerciseRun asked o o' causes.WriteFault
exercise_unflushed asked o p o' shown is wrote same later rose = record {
  printed = λ done. absurd cc;
  printed_part = part_all o.taken o'.taken (text_asked asked) (written asked o p o' shown is wrote same);
  ends = rose_second o.failed p.failed o'.failed later rose;
}
