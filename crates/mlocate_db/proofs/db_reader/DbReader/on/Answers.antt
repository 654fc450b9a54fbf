use Rattle.mlocate_db.specs.declared.db_reader.Stage.TheVariants as stages
use Rattle.std.proofs.Common.{false}
use Rattle.mlocate_db.proofs.db_reader.DbReader.on.Goals as goal

pub returns : goal.returns
returns c = λ i. record { feed = c.args.feed; path = c.new.ensures i; dir_len = 0; stage = stages.Fresh; version = 0; flag = false; stamp = c.zero.ensures i; device = 0; shared = 0; place = 0; heads = 0 }
