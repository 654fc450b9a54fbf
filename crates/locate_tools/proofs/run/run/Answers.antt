use Rattle.std.specs.Prelude.{Err}
use Rattle.std.proofs.Common.{[], Option, refl, sym, ap, ◌∙◌}
use Rattle.tool_words.specs.ConvertSeen.{seen as convert_seen}
use Rattle.tool_words.specs.ExerciseSeen.{seen as exercise_seen}
use Rattle.tool_words.specs.LocateSeen.{seen as locate_seen}
use Rattle.tool_words.specs.UpdatedbSeen.{seen as updatedb_seen}
use Rattle.tool_words.specs.declared.tool.Tool.{Tool}
use Rattle.locate_tools.specs.Calls.{tool_called}
use Rattle.locate_tools.specs.Statuses.{status_of}
use Rattle.locate_tools.specs.declared.answer.Cause.TheVariants as causes
use Rattle.locate_tools.proofs.Doing.{does_by, leaves_all, leaves_convert, leaves_exercise, leaves_locate, leaves_updatedb, told_by, works_convert, works_exercise, works_locate, works_memory, works_refused, works_updatedb}
use Rattle.locate_tools.proofs.Exercising.{exercise_passes_on}
use Rattle.locate_tools.proofs.Runs.{does_pass_on}
use Rattle.locate_tools.proofs.ToldOf.{told_convert, told_exercise, told_locate, told_memory, told_refused, told_updatedb, tool_of_convert, tool_of_exercise, tool_of_locate, tool_of_updatedb}
use Rattle.locate_tools.proofs.run.run.Goals as goal

pub returns-in-Err-Usage-clause-does : goal.returns-in-Err-Usage-clause-does
returns-in-Err-Usage-clause-does g c =
    let said = c.ended.ensures in
    let none = c.in-Err-Usage.ensures.refused (ap Err c.in-Err-Usage.field-0-is) in
    does_by c.args.call.now _ c.ended.result _ _ (works_refused _ _ _ _ _ none said.cause said.outcomes)
    (said.status ∙ sym (ap (status_of (tool_called c.args.call.now)) said.cause))
    (told_refused c.args.call.now c.tool.result causes.Usage c.tool.ensures none ∙ told_by c.args.call.now [] c.ended.result.outcomes causes.Usage c.ended.result.cause said.outcomes said.cause)
    said.told said.told_part (λ sound out. out) refl said.err_later

pub returns-in-Err-OutOfMemory-clause-does : goal.returns-in-Err-OutOfMemory-clause-does
returns-in-Err-OutOfMemory-clause-does g c =
    let said = c.ended-in-Err-OutOfMemory.ensures in
    does_by c.args.call.now _ c.ended-in-Err-OutOfMemory.result _ _ (works_memory _ _ _ _ _ said.cause said.outcomes refl refl refl refl)
    (said.status ∙ sym (ap (status_of (tool_called c.args.call.now)) said.cause))
    (told_memory c.args.call.now c.tool-in-Err-OutOfMemory.result c.tool-in-Err-OutOfMemory.ensures ∙ told_by c.args.call.now [] c.ended-in-Err-OutOfMemory.result.outcomes causes.OutOfMemory c.ended-in-Err-OutOfMemory.result.cause said.outcomes said.cause)
    said.told said.told_part (λ sound out. out) refl said.err_later

pub returns-in-Err-Usage-clause-leaves : goal.returns-in-Err-Usage-clause-leaves
returns-in-Err-Usage-clause-leaves g c = leaves_all _ _ _ _ _ _ _ refl refl refl refl refl

pub returns-in-Err-OutOfMemory-clause-leaves : goal.returns-in-Err-OutOfMemory-clause-leaves
returns-in-Err-OutOfMemory-clause-leaves g c = leaves_all _ _ _ _ _ _ _ refl refl refl refl refl

pub returns-in-Locate-clause-does : goal.returns-in-Locate-clause-does
returns-in-Locate-clause-does g c =
    let said = c.run_locate.ensures in
    let asks = rw c.in-Locate.is at c.in-Ok.ensures.accepted in
    does_by c.args.call.now _ c.run_locate.result _ _
    (works_locate _ (locate_seen c.in-Locate.asked) _ _ _ _ asks (record { run = said.run; accepted = said.usage }))
    (said.status ∙ ap (λ (t : Option Tool). status_of t c.run_locate.result.cause) (sym (tool_of_locate _ _ asks)))
    (told_locate _ _ c.run_locate.result.outcomes c.run_locate.result.cause asks) said.told said.told_part (does_pass_on _ _ _ _ _ said.run) said.files said.err_later

pub returns-in-Locate-clause-leaves : goal.returns-in-Locate-clause-leaves
returns-in-Locate-clause-leaves g c =
    let said = c.run_locate.ensures in
    let asks = rw c.in-Locate.is at c.in-Ok.ensures.accepted in
    leaves_locate _ (locate_seen c.in-Locate.asked) _ _ _ _ _ _ asks (record { tree_same = refl; output_same = refl; unopened = said.unopened; refused = said.refused; unasked = said.none })

pub returns-in-Updatedb-clause-does : goal.returns-in-Updatedb-clause-does
returns-in-Updatedb-clause-does g c =
    let said = c.run_updatedb.ensures in
    let asks = rw c.in-Updatedb.is at c.in-Ok.ensures.accepted in
    does_by c.args.call.now _ c.run_updatedb.result _ _
    (works_updatedb _ (updatedb_seen c.in-Updatedb.asked) _ _ _ _ asks (record { run = rw c.moment.ensures at said.run; accepted = said.usage; outcomes = said.outcomes }))
    (said.status ∙ ap (λ (t : Option Tool). status_of t c.run_updatedb.result.cause) (sym (tool_of_updatedb _ _ asks)))
    (told_updatedb _ _ c.run_updatedb.result.cause asks ∙ told_by c.args.call.now _ c.run_updatedb.result.outcomes _ c.run_updatedb.result.cause said.outcomes refl) said.told said.told_part said.run.does.bounded.passed_on said.files said.err_later

pub returns-in-Updatedb-clause-leaves : goal.returns-in-Updatedb-clause-leaves
returns-in-Updatedb-clause-leaves g c =
    let asks = rw c.in-Updatedb.is at c.in-Ok.ensures.accepted in
    leaves_updatedb _ (updatedb_seen c.in-Updatedb.asked) _ _ _ _ _ _ asks refl

pub returns-in-Convert-clause-does : goal.returns-in-Convert-clause-does
returns-in-Convert-clause-does g c =
    let said = c.run_convert.ensures in
    let asks = rw c.in-Convert.is at c.in-Ok.ensures.accepted in
    does_by c.args.call.now _ c.run_convert.result _ _
    (works_convert _ (convert_seen c.in-Convert.asked) _ _ _ _ asks (record { run = said.run; accepted = said.usage; outcomes = said.outcomes }))
    (said.status ∙ ap (λ (t : Option Tool). status_of t c.run_convert.result.cause) (sym (tool_of_convert _ _ asks)))
    (told_convert _ _ c.run_convert.result.cause asks ∙ told_by c.args.call.now _ c.run_convert.result.outcomes _ c.run_convert.result.cause said.outcomes refl) said.told said.told_part (λ sound out. out) said.files said.err_later

pub returns-in-Convert-clause-leaves : goal.returns-in-Convert-clause-leaves
returns-in-Convert-clause-leaves g c =
    let said = c.run_convert.ensures in
    let asks = rw c.in-Convert.is at c.in-Ok.ensures.accepted in
    leaves_convert _ (convert_seen c.in-Convert.asked) _ _ _ _ _ _ asks (record { tree_same = refl; gate_same = refl; out_same = refl; unwritten = said.unwritten })

pub returns-in-Exercise-clause-does : goal.returns-in-Exercise-clause-does
returns-in-Exercise-clause-does g c =
    let said = c.run_exercise.ensures in
    let asks = rw c.in-Exercise.is at c.in-Ok.ensures.accepted in
    does_by c.args.call.now _ c.run_exercise.result _ _
    (works_exercise _ (exercise_seen c.in-Exercise.asked) _ _ _ _ asks (record { run = said.run; outcomes = said.outcomes }))
    (said.status ∙ ap (λ (t : Option Tool). status_of t c.run_exercise.result.cause) (sym (tool_of_exercise _ _ asks)))
    (told_exercise _ _ c.run_exercise.result.cause asks ∙ told_by c.args.call.now _ c.run_exercise.result.outcomes _ c.run_exercise.result.cause said.outcomes refl) said.told said.told_part (exercise_passes_on _ _ _ _ said.run) refl said.err_later

pub returns-in-Exercise-clause-leaves : goal.returns-in-Exercise-clause-leaves
returns-in-Exercise-clause-leaves g c =
    let said = c.run_exercise.ensures in
    let asks = rw c.in-Exercise.is at c.in-Ok.ensures.accepted in
    leaves_exercise _ (exercise_seen c.in-Exercise.asked) _ _ _ _ _ _ asks (record { reader_same = refl; tree_same = refl; gate_same = refl; output_same = refl; unwritten = said.unwritten })
