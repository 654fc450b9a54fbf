use Rattle.std.proofs.Common.{◌≡◌, ◌≤◌, ◌-◌, ◌++◌}
use Rattle.std.specs.List.{range_with_len}
use Rattle.db_convert.proofs.order.push_places.Given as goal

abbrev pub invariant-places : goal.invariant-places
invariant-places l = record { laid : l.places.items ≡ l.initial.places.items ++ range_with_len l.fn.run.first (l.at - l.fn.run.first); within : l.at - l.fn.run.first ≤ l.fn.run.end - l.fn.run.first }
