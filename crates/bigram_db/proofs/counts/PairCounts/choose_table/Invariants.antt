use Rattle.bigram_db.proofs.Taken.{Taken}
use Rattle.bigram_db.proofs.counts.PairCounts.choose_table.Given as goal

abbrev pub invariant-places : goal.invariant-places
invariant-places l = Taken l.self l.place l.bytes l.last
