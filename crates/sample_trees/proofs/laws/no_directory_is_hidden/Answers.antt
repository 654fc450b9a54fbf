use Rattle.sample_trees.proofs.Stamps.{all_shown}
use Rattle.sample_trees.proofs.laws.no_directory_is_hidden.Goals as goal

pub returns : goal.returns
returns c = all_shown c.args.seed c.args.rounds
