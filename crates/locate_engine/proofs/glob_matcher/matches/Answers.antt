use Rattle.std.proofs.Common.{drop}
use Rattle.std.specs.Bool.{one_answer}
use Rattle.locate_engine.proofs.Patterns.{in_glob_is}
use Rattle.locate_engine.proofs.glob_matcher.matches.Goals as goal

pub returns-clause-value : goal.returns-clause-value
returns-clause-value g c = one_answer _ _ c.matches_from.ensures.value (in_glob_is c.args.glob.now (drop c.args.from c.args.path.now))
