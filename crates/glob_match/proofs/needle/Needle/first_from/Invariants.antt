use Rattle.std.proofs.Common.{ℕ, ◌-◌, ◌≤◌, List, Bool}
use Rattle.memchr.specs.Find.{Nowhere}
use Rattle.glob_match.specs.Needle.{Stands}
use Rattle.glob_match.proofs.needle.Needle.first_from.Given as goal

-- the bytes stand at no place up to this one
pub record Passed (fold : Bool) (bytes text : List ℕ) (from at : ℕ) : Type 0 where
  pub on : from ≤ at
  pub passed : Nowhere (Stands fold bytes text) from at

abbrev pub invariant-loop-at : goal.invariant-loop-at
invariant-loop-at l = Passed l.self-inside.fold l.self-inside.bytes.items l.text l.from l.at

abbrev pub decreases-loop-at : goal.decreases-loop-at
decreases-loop-at l = l.past - l.at
