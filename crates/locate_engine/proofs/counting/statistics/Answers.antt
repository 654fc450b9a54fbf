use Rattle.locate_engine.proofs.Counted.{counts_failed, counts_found, counts_missing}
use Rattle.locate_engine.proofs.counting.statistics.Goals as goal

pub returns-in-Err-clause-counts : goal.returns-in-Err-clause-counts
returns-in-Err-clause-counts g c = rw c.none-in-Err.ensures (counts_failed (g.R.Reader.files c.args.reader.now) c.args.name.now _ _ c.in-Err.ensures.given)

pub returns-in-Ok-Missing-clause-counts : goal.returns-in-Ok-Missing-clause-counts
returns-in-Ok-Missing-clause-counts g c = rw c.none.ensures (counts_missing (g.R.Reader.files c.args.reader.now) c.args.name.now _ _ _ c.in-Ok-Missing.ensures.given _ c.in-Ok-Missing.field-0-is c.in-Ok-Missing.ensures.opened)

pub returns-in-Ok-Found-clause-counts : goal.returns-in-Ok-Found-clause-counts
returns-in-Ok-Found-clause-counts g c = counts_found (g.R.Reader.files c.args.reader.now) c.args.name.now _ _ _ _ _ _ c.in-Ok-Found.ensures.given _ c.in-Ok-Found.field-0-is c.in-Ok-Found.ensures.opened c.statistics_opened.ensures.counts
