use Rattle.std.proofs.Common.{get_or, arith}
use Rattle.bigram_db.specs.Pairs.{Pair}
use Rattle.bigram_db.proofs.PairCounting.{often_few}
use Rattle.bigram_db.proofs.counts.count_pairs.Goals as goal

pub count_pair-requires-clause-room : goal.count_pair-requires-clause-room
count_pair-requires-clause-room c =
    let q : Pair = (get_or c.pairs.left.now 0 0, get_or c.pairs.left.now 1 0) in
    let z = c.type_inv.text in
    omega (arith, c.pairs.invariant q, c.requires.room q, often_few c.args.text.now q)
