use Rattle.std.proofs.Common.{◌≡◌, ◌≤◌, ◌-◌, length}
use Rattle.std.specs.List.{flat_map, range_with_len}
use Rattle.db_convert.specs.Runs.{places_in}
use Rattle.db_convert.proofs.order.all_runs.Given as goal

abbrev pub invariant-runs : goal.invariant-runs
invariant-runs l = record { made : flat_map places_in l.runs.items ≡ range_with_len 0 l.first; within : l.first ≤ length l.paths }

abbrev pub decreases-runs : goal.decreases-runs
decreases-runs l = length l.paths - l.first
