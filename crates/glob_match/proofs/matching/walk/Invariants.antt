use Rattle.std.proofs.Common.{ℕ, ◌<◌, ◌≤◌, List, length}
use Rattle.glob_match.specs.Item.{Item}
use Rattle.glob_match.proofs.Walk.{Walks}
use Rattle.glob_match.proofs.Cost.{spent, left_over}
use Rattle.glob_match.proofs.matching.walk.Given as goal

-- where the walk stands, and what it has spent
pub record Stands (items : List Item) (text : List ℕ) (item at restart from start steps : ℕ) : Type 0 where
  pub walks : Walks items text item at restart from
  pub inside : 0 < restart → restart < length items
  pub rising : start ≤ steps
  pub cost : steps ≤ spent start (length items) item from

abbrev pub invariant-walk : goal.invariant-walk
invariant-walk g l = Stands l.items l.text l.item l.at l.restart l.from l.initial.steps l.steps

abbrev pub decreases-walk : goal.decreases-walk
decreases-walk g l = left_over (length l.items) (length l.text) l.item l.from
