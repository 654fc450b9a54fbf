use Rattle.std.proofs.Common.{◌<◌, ◌≤◌, ◌+◌, ℕ, List, IsTrue, length, get_or, subst, arith}
use Rattle.sample_trees.specs.declared.step.SampleStep.{SampleStep}
use Rattle.tree_scan.specs.Plans.{plan_of}
use Rattle.dir_reuse.specs.Usable.{is_ordered}
use Rattle.update_runs.specs.Single.{IsHonest, Refuses, Updates, opened_in, openings_in}
use Rattle.update_runs.proofs.Moves.{asks_stopped, moved_on, seen_at}
use Rattle.update_runs.proofs.Stands.{memory_stops, next_ready, stands_at, stands_on, stands_stopped}
use Rattle.update_runs.proofs.list.update_list.Goals as goal

pub returns-in_default-clause-stopped : goal.returns-in_default-clause-stopped
returns-in_default-clause-stopped c = memory_stops (plan_of c.args.rules.now) c.args.start.now c.args.steps.now

pub returns-in_default-put_all-clause-stopped : goal.returns-in_default-put_all-clause-stopped
returns-in_default-put_all-clause-stopped c = memory_stops (plan_of c.args.rules.now) c.args.start.now c.args.steps.now

pub update_step-requires-clause-steady : goal.update_step-requires-clause-steady
update_step-requires-clause-steady c =
    (next_ready _ _ _ _ _ _ c.loop-step.steps c.loop-step.step-index c.step-item.result (let more = c.loop-step-test.true in let same = c.loop-step.auto.steps in omega (arith, more, same)) c.loop-step.invariant.1).steady

pub update_step-requires-clause-openings : goal.update_step-requires-clause-openings
update_step-requires-clause-openings c =
    (next_ready _ _ _ _ _ _ c.loop-step.steps c.loop-step.step-index c.step-item.result (let more = c.loop-step-test.true in let same = c.loop-step.auto.steps in omega (arith, more, same)) c.loop-step.invariant.1).openings

pub returns-in-Err-clause-stopped : goal.returns-in-Err-clause-stopped
returns-in-Err-clause-stopped c =
    let plan = plan_of c.args.rules.now in
    let within : c.loop-step.step-index < length c.loop-step.steps = (let more = c.loop-step-test.true in let same = c.loop-step.auto.steps in omega (arith, more, same)) in
    let step : SampleStep = get_or c.loop-step.steps c.loop-step.step-index c.step-item.result in
    stands_stopped plan c.args.start.now c.args.steps.now c.loop-step.old.held.pending c.loop-step.directories c.loop-step.openings _ _ c.in-Err.fault
    (stands_at plan c.args.start.now c.args.steps.now c.loop-step.old.held.pending c.loop-step.directories c.loop-step.openings c.loop-step.steps c.loop-step.step-index c.step-item.result within c.loop-step.invariant.1)
    (subst (λ (old : List ℕ). IsHonest plan old step.tree.dirs → Refuses plan old step.tree.dirs c.in-Err.fault) c.pending.ensures c.in-Err.ensures.refused)

pub returns-in-Err-clause-asks : goal.returns-in-Err-clause-asks
returns-in-Err-clause-asks c =
    let plan = plan_of c.args.rules.now in
    let within : c.loop-step.step-index < length c.loop-step.steps = (let more = c.loop-step-test.true in let same = c.loop-step.auto.steps in omega (arith, more, same)) in
    let step : SampleStep = get_or c.loop-step.steps c.loop-step.step-index c.step-item.result in
    asks_stopped plan c.args.start.now c.args.steps.now c.loop-step.old.held.pending c.loop-step.directories c.loop-step.openings c.loop-step.steps c.loop-step.step-index c.step-item.result c.update_step.new.step
    within c.loop-step.invariant.1 c.loop-step.invariant.0 c.update_step.ensures.same
    (subst (λ (old : List ℕ). IsHonest plan old step.tree.dirs → IsTrue (is_ordered plan.root plan.block old) → openings_in c.update_step.new.step ≤ openings_in step + opened_in plan old step.tree.dirs) c.pending.ensures c.update_step.ensures.asked)

pub returns-in-Err-clause-seen : goal.returns-in-Err-clause-seen
returns-in-Err-clause-seen c =
    let within : c.loop-step.step-index < length c.loop-step.steps = (let more = c.loop-step-test.true in let same = c.loop-step.auto.steps in omega (arith, more, same)) in
    seen_at c.in-Err.fault c.args.rules.now.root c.args.steps.now c.loop-step.steps c.loop-step.openings c.loop-step.step-index c.step-item.result within c.loop-step.invariant.0 c.in-Err.ensures.found

pub loop-step-preserved : goal.loop-step-preserved
loop-step-preserved c =
    let plan = plan_of c.args.rules.now in
    let within : c.loop-step.step-index < length c.loop-step.steps = (let more = c.loop-step-test.true in let same = c.loop-step.auto.steps in omega (arith, more, same)) in
    let step : SampleStep = get_or c.loop-step.steps c.loop-step.step-index c.step-item.result in (
      moved_on c.args.steps.now c.loop-step.steps c.loop-step.openings c.loop-step.step-index c.in-Ok-update_step.counts.opened c.step-item.result c.update_step.new.step within c.loop-step.invariant.0 c.update_step.ensures.same c.in-Ok-update_step.ensures.counted,
      stands_on plan c.args.start.now c.args.steps.now c.loop-step.old.held.pending c.loop-step.directories c.loop-step.openings c.loop-step.steps c.loop-step.step-index c.step-item.result c.update_step.new.step c.in-Ok-update_step.counts c.update_step.new.into.held.pending
          (record { root = c.requires.root; version = c.requires.version; block = c.requires.block }) within c.loop-step.invariant.1 c.in-Ok-update_step.ensures.few
          (subst (λ (old : List ℕ). IsHonest plan old step.tree.dirs → Updates plan old step c.in-Ok-update_step.counts c.update_step.new.into.held.pending) c.pending.ensures c.in-Ok-update_step.ensures.done),
    )
