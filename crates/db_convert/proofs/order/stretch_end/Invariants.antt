use Rattle.std.proofs.Common.{◌<◌, ◌≤◌, ◌-◌, length}
use Rattle.db_convert.proofs.order.stretch_end.Given as goal

abbrev pub invariant-same : goal.invariant-same
invariant-same l = record { behind : l.first < l.end; within : l.end ≤ length l.places }

abbrev pub decreases-same : goal.decreases-same
decreases-same l = length l.places - l.end
