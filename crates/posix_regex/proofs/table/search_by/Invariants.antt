use Rattle.std.proofs.Common.{◌+◌, ◌-◌, ◌≤◌, length}
use Rattle.posix_regex.proofs.Tables.{Stands}
use Rattle.posix_regex.proofs.table.search_by.Given as goal

abbrev pub invariant-loop-at : goal.invariant-loop-at
invariant-loop-at g l = record {
  within : l.at ≤ length l.text;
  stands : Stands l.states l.rows l.text l.number l.at;
  rising : l.initial.steps ≤ l.steps;
  bound : l.steps ≤ l.initial.steps + l.at;
}

abbrev pub decreases-loop-at : goal.decreases-loop-at
decreases-loop-at g l = length l.text - l.at
