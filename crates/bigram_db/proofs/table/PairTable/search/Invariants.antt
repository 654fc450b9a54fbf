use Rattle.std.proofs.Common.{◌≡◌, ◌+◌, ◌*◌, length}
use Rattle.std.specs.List.{position, position_from}
use Rattle.bigram_db.specs.Pairs.{pairs_of, is_same}
use Rattle.bigram_db.proofs.table.PairTable.search.Given as goal

abbrev pub invariant-pairs : goal.invariant-pairs
invariant-pairs l = record {
  whole : length l.left + 2 * l.number ≡ 256;
  found : position (is_same (l.a, l.b)) (pairs_of l.self) ≡ position_from (is_same (l.a, l.b)) l.number (pairs_of l.left);
}

abbrev pub decreases-pairs : goal.decreases-pairs
decreases-pairs l = length l.left
