use Rattle.std.proofs.Common.{◌≡◌, ◌-◌, ◌≤◌, ◌++◌, length, drop}
use Rattle.glob_match.specs.Pattern.{items}
use Rattle.glob_match.proofs.reading.read_items.Given as goal

abbrev pub invariant-loop-at : goal.invariant-loop-at
invariant-loop-at l = (l.at ≤ length l.pattern) × (l.read ++ items l.fold 0 (drop l.at l.pattern) ≡ items l.fold 0 l.pattern)

abbrev pub decreases-loop-at : goal.decreases-loop-at
decreases-loop-at l = length l.pattern - l.at
