use Rattle.std.proofs.Common.{◌≡◌, ◌∙◌, ◌+◌, List, length, arith, sym, subst, ap, All}
use Rattle.sample_trees.specs.declared.step.SampleStep.{SampleStep}
use Rattle.tree_scan.specs.Plans.{plan_of}
use Rattle.update_runs.specs.Runs.{IsReady}
use Rattle.update_runs.proofs.Exercises.{exercise_comes, exercise_stops}
use Rattle.update_runs.proofs.Samples.{steps_count, steps_ready}
use Rattle.update_runs.proofs.exercising.exercise.Goals as goal

pub update_list-requires-clause-count : goal.update_list-requires-clause-count
update_list-requires-clause-count c =
    let all : length c.deref_mut.result.now ≡ c.args.rounds + 1 = ap length (c.deref_mut.ensures.value ∙ c.in_ok-steps.ensures) ∙ steps_count c.args.number c.args.rounds in
    omega (arith, all)

pub update_list-requires-clause-ready : goal.update_list-requires-clause-ready
update_list-requires-clause-ready c =
    subst (λ (l : List SampleStep). All IsReady l) (sym (c.deref_mut.ensures.value ∙ c.in_ok-steps.ensures)) (steps_ready c.args.number c.args.rounds)

pub returns-in-Ok : goal.returns-in-Ok
returns-in-Ok c =
    exercise_comes (plan_of c.sample_rules-rules.result) c.deref_mut.result.now c.args.number c.args.rounds c.in-Ok.list c.as_slice.result.now c.sample_rules-rules.ensures.plan (c.deref_mut.ensures.value ∙ c.in_ok-steps.ensures) (omega arith)
    c.sample_rules-rules.ensures.block c.as_slice.ensures c.in-Ok.ensures.done

pub unreachable-requires : goal.unreachable-requires
unreachable-requires c =
    let only = exercise_stops (plan_of c.sample_rules-rules.result) c.deref_mut.result.now c.args.number c.args.rounds _ c.sample_rules-rules.ensures.plan (c.deref_mut.ensures.value ∙ c.in_ok-steps.ensures) (omega arith) c.sample_rules-rules.ensures.block c.in-Err-RootMissing.ensures.stopped in
    let is = c.in-Err-RootMissing.field-0-is in
    cc

pub unreachable-requires-in-Err-TooManyNames : goal.unreachable-requires-in-Err-TooManyNames
unreachable-requires-in-Err-TooManyNames c =
    let only = exercise_stops (plan_of c.sample_rules-rules.result) c.deref_mut.result.now c.args.number c.args.rounds _ c.sample_rules-rules.ensures.plan (c.deref_mut.ensures.value ∙ c.in_ok-steps.ensures) (omega arith) c.sample_rules-rules.ensures.block c.in-Err-TooManyNames.ensures.stopped in
    let is = c.in-Err-TooManyNames.field-0-is in
    cc

pub unreachable-requires-in-Err-TooManyDirectories : goal.unreachable-requires-in-Err-TooManyDirectories
unreachable-requires-in-Err-TooManyDirectories c =
    let only = exercise_stops (plan_of c.sample_rules-rules.result) c.deref_mut.result.now c.args.number c.args.rounds _ c.sample_rules-rules.ensures.plan (c.deref_mut.ensures.value ∙ c.in_ok-steps.ensures) (omega arith) c.sample_rules-rules.ensures.block c.in-Err-TooManyDirectories.ensures.stopped in
    let is = c.in-Err-TooManyDirectories.field-0-is in
    cc
