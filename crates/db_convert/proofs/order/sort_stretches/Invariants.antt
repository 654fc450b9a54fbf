use Rattle.std.proofs.Common.{IsPermutation, ◌-◌, length}
use Rattle.db_convert.proofs.order.sort_stretches.Given as goal

abbrev pub invariant-stretches : goal.invariant-stretches
invariant-stretches l = IsPermutation l.initial.places l.places

abbrev pub decreases-stretches : goal.decreases-stretches
decreases-stretches l = length l.places - l.first
