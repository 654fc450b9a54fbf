use Rattle.std.proofs.Common.{◌≡◌, take}
use Rattle.std.specs.List.{flat_map}
use Rattle.db_convert.specs.Runs.{places_in}
use Rattle.db_convert.proofs.order.places_of.Given as goal

abbrev pub invariant-runs : goal.invariant-runs
invariant-runs l = l.places.items ≡ flat_map places_in (take l.run-index l.runs)
