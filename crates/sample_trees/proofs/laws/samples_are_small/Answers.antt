use Rattle.sample_trees.proofs.Sizes.{is_small}
use Rattle.sample_trees.proofs.laws.samples_are_small.Goals as goal

pub returns : goal.returns
returns c = is_small c.args.seed c.args.rounds
