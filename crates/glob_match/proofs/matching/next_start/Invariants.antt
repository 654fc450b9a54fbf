use Rattle.std.proofs.Common.{ℕ, ◌+◌, ◌-◌, ◌<◌, ◌≤◌, List, length, drop}
use Rattle.glob_match.specs.Item.{Item}
use Rattle.glob_match.specs.Language.{Matches}
use Rattle.glob_match.proofs.matching.next_start.Given as goal

-- the places from the first to this one were passed over, one step for each
pub record Passed (items : List Item) (text : List ℕ) (item from start before steps : ℕ) : Type 0 where
  pub forth : from ≤ start
  pub within : start ≤ length text
  pub passed : (place : ℕ) → from ≤ place → place < start → Matches (drop item items) (drop place text) → ⊥
  pub rising : before ≤ steps
  pub cost : steps ≤ before + (start - from)

abbrev pub invariant-loop-start : goal.invariant-loop-start
invariant-loop-start g l = Passed l.items l.text l.item l.from l.start l.initial.steps l.steps

abbrev pub decreases-loop-start : goal.decreases-loop-start
decreases-loop-start g l = length l.text - l.start
