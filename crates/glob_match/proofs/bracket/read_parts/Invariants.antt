use Rattle.std.proofs.Common.{◌-◌, ◌≤◌, length, drop}
use Rattle.glob_match.specs.Bracket.{parts, parts_first}
use Rattle.glob_match.proofs.BracketParts.{Joins}
use Rattle.glob_match.proofs.bracket.read_parts.Given as goal

abbrev pub invariant-loop-at : goal.invariant-loop-at
invariant-loop-at l = (l.at ≤ length l.text) × Joins l.set (parts 0 (drop l.at l.text)) (parts_first l.text)

abbrev pub decreases-loop-at : goal.decreases-loop-at
decreases-loop-at l = length l.text - l.at
