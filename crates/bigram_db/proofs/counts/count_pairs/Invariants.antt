use Rattle.std.proofs.Common.{◌≡◌, ◌+◌, length}
use Rattle.bigram_db.specs.Pairs.{Pair}
use Rattle.bigram_db.specs.Chosen.{counted_in, times}
use Rattle.bigram_db.specs.Counts.{times_of}
use Rattle.bigram_db.proofs.counts.count_pairs.Given as goal

abbrev pub invariant-pairs : goal.invariant-pairs
invariant-pairs l = (p : Pair) → times_of l.numbers p + times (counted_in l.left) p ≡ times_of l.fn.numbers p + times (counted_in l.fn.text) p

abbrev pub decreases-pairs : goal.decreases-pairs
decreases-pairs l = length l.left
