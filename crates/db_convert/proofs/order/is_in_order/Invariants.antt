use Rattle.db_convert.specs.Orders.{Rises}
use Rattle.db_convert.proofs.order.is_in_order.Given as goal

abbrev pub invariant-places : goal.invariant-places
invariant-places l = Rises l.paths l.places l.at
