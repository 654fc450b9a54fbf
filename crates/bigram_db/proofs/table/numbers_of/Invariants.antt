use Rattle.std.proofs.Common.{◌≡◌, ◌≤◌, length}
use Rattle.bigram_db.proofs.Numbered.{NumbersFrom}
use Rattle.bigram_db.proofs.table.numbers_of.Given as goal

abbrev pub invariant-pairs : goal.invariant-pairs
invariant-pairs l = record {
  few : l.left ≤ 128;
  cells : length l.numbers ≡ 9216;
  numbered : NumbersFrom l.bytes l.left l.numbers;
}

abbrev pub decreases-pairs : goal.decreases-pairs
decreases-pairs l = l.left
