use Rattle.std.proofs.Common.{ap, ◌∙◌}
use Rattle.std.specs.List.{flat_map}
use Rattle.db_convert.specs.Runs.{places_in}
use Rattle.db_convert.proofs.RunPlaces.{spread}
use Rattle.db_convert.proofs.order.all_places.Goals as goal

pub returns : goal.returns
returns c = spread _ _ _ _ c.in_ok-runs.ensures c.in_ok-sort_runs.ensures (c.in_ok-places.ensures ∙ ap (flat_map places_in) c.deref.ensures.value)
