use Rattle.std.proofs.Common.{◌-◌, ◌≤◌, length}
use Rattle.db_convert.proofs.seek.place_ahead.Given as goal

abbrev pub invariant-steps : goal.invariant-steps
invariant-steps l = record { from : l.low ≤ l.high; within : l.high ≤ length l.places; some : 1 ≤ l.step }

abbrev pub decreases-steps : goal.decreases-steps
decreases-steps l = length l.places - l.high
