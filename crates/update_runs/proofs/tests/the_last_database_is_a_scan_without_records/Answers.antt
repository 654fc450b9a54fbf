use Rattle.std.proofs.Common.{◌≡◌, ◌∙◌, ◌≤◌, ℕ, List, length, arith, sym, subst, ap, All}
use Rattle.sample_trees.specs.declared.step.SampleStep.{SampleStep}
use Rattle.tree_scan.specs.declared.rules.Limits.{Limits}
use Rattle.update_runs.specs.Runs.{IsReady}
use Rattle.update_runs.proofs.Samples.{steps_count, steps_ready}
use Rattle.update_runs.proofs.tests.the_last_database_is_a_scan_without_records.Goals as goal

pub update_list-requires-clause-count : goal.update_list-requires-clause-count
update_list-requires-clause-count g c =
    let all : length c.deref_mut.result.now ≡ 4 = ap length (c.deref_mut.ensures.value ∙ c.in_ok-steps.ensures) ∙ steps_count 7 3 in
    omega (arith, all)

pub update_list-requires-clause-ready : goal.update_list-requires-clause-ready
update_list-requires-clause-ready g c = subst (λ (l : List SampleStep). All IsReady l) (sym (c.deref_mut.ensures.value ∙ c.in_ok-steps.ensures)) (steps_ready 7 3)

pub scan-requires-clause-limits : goal.scan-requires-clause-limits
scan-requires-clause-limits g c = subst (λ (l : Limits). (l.names ≤ 16777216) × (l.directories ≤ 4294967295)) (sym c.standard.ensures) (omega arith, omega arith)
