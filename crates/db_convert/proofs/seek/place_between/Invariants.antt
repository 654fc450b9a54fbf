use Rattle.std.proofs.Common.{◌-◌, ◌≤◌, length}
use Rattle.db_convert.specs.Orders.{IsAhead, IsPast}
use Rattle.db_convert.proofs.seek.place_between.Given as goal

abbrev pub invariant-halves : goal.invariant-halves
invariant-halves l = record { order : l.low ≤ l.high; within : l.high ≤ length l.places; past : IsPast l.paths l.places l.dir l.low; ahead : IsAhead l.paths l.places l.dir l.high }

abbrev pub decreases-halves : goal.decreases-halves
decreases-halves l = l.high - l.low
