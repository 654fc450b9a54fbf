use Rattle.std.proofs.Common.{arith}
use Rattle.std.proofs.lemmas.Iterator.Adapters.{position_from-zero}
use Rattle.bigram_db.specs.Pairs.{pairs_of, is_same}
use Rattle.bigram_db.proofs.table.PairTable.search.Goals as goal

pub pairs-init : goal.pairs-init
pairs-init c = record {
  whole = omega (arith, c.bytes-left.ensures.len);
  found = rw c.bytes-left.ensures.value (position_from-zero (is_same (c.args.a, c.args.b)) (pairs_of c.args.self.now));
}
