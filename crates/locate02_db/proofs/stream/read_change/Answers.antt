use Rattle.byte_feed.proofs.Streams.{stream_same}
use Rattle.locate02_db.specs.Items.{long_at, change_from}
use Rattle.locate02_db.proofs.ItemSteps.{change_long, change_one}
use Rattle.locate02_db.proofs.stream.read_change.Goals as goal

pub returns-then-first-eq128-clause-change : goal.returns-then-first-eq128-clause-change
returns-then-first-eq128-clause-change g c =
    stream_same (λ x. x) long_at (change_from c.args.first) _ _ _ _ c.read_long.result (change_long c.args.first c.if-first-eq128.true) c.read_long.ensures.change

pub returns-clause-change : goal.returns-clause-change
returns-clause-change g c = change_one c.args.first c.cast_signed.result _ _ c.if-first-eq128.false c.ranges.first.fits c.cast_signed.ensures
