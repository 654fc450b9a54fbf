use Rattle.sample_trees.proofs.Stamps.{same_where_times_agree as same}
use Rattle.sample_trees.proofs.laws.same_where_times_agree.Goals as goal

pub returns : goal.returns
returns c = same c.args.seed c.args.earlier c.args.later c.requires
