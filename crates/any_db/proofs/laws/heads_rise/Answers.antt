use Rattle.any_db.proofs.Blocks.{heads_rise, has_heads}
use Rattle.any_db.proofs.laws.heads_rise.Goals as goal

pub returns : goal.returns
returns c = record { rise = heads_rise; heads = has_heads }
