use Rattle.locate_engine.proofs.Patterns.{wanted_is}
use Rattle.locate_engine.proofs.glob_matcher.wanted_is_matched.Goals as goal

pub returns : goal.returns
returns c = wanted_is c.args._query.now c.args._path.now
