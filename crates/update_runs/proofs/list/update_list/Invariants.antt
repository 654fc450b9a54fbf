use Rattle.std.proofs.Common.{drop}
use Rattle.tree_scan.specs.Plans.{plan_of}
use Rattle.update_runs.proofs.Moves.{Moved}
use Rattle.update_runs.proofs.Stands.{Stands}
use Rattle.update_runs.proofs.list.update_list.Given as goal

abbrev pub invariant-loop-step : goal.invariant-loop-step
invariant-loop-step l = Moved l.fn.steps l.steps l.openings × Stands (plan_of l.fn.rules) l.fn.start l.fn.steps l.old.held.pending l.directories l.openings (drop l.step-index l.steps)
