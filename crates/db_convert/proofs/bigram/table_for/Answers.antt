use Rattle.std.proofs.Common.{◌∙◌, arith}
use Rattle.bigram_db.proofs.PathCounting.{counts_more, counts_below, counts_all}
use Rattle.db_convert.proofs.bigram.table_for.Goals as goal

pub add-requires : goal.add-requires
add-requires c = λ p. counts_below c.paths.counts c.paths.before.now c.args.paths.now c.paths.at p c.paths.invariant (omega (arith, c.size.ensures.value, c.size.ensures.bound))

pub paths-preserved : goal.paths-preserved
paths-preserved c =
    counts_more c.paths.counts c.add.new.self c.paths.before.now c.args.paths.now c.paths.at _ (omega (arith, c.paths-test.true, c.len-at-end.ensures)) c.at-path.ensures c.paths.invariant c.add.ensures

pub returns : goal.returns
returns c = c.choose_table.ensures ∙ counts_all c.paths.counts c.paths.before.now c.args.paths.now c.paths.at c.paths.invariant (omega (arith, c.paths-test.false, c.len-at-end.ensures))
