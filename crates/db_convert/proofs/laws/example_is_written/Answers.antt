use Rattle.db_convert.proofs.Example.{four_items}
use Rattle.db_convert.proofs.laws.example_is_written.Goals as goal

pub returns : goal.returns
returns c = four_items
