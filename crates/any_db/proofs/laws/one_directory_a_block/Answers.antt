use Rattle.any_db.proofs.Blocks.{one_directory_a_block}
use Rattle.any_db.proofs.laws.one_directory_a_block.Goals as goal

pub returns : goal.returns
returns c = one_directory_a_block
