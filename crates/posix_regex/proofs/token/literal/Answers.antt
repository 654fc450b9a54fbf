use Rattle.posix_regex.proofs.Sets.{literal-set}
use Rattle.posix_regex.proofs.token.literal.Goals as goal

pub returns : goal.returns
returns c = literal-set c.args.fold c.args.byte c.new-set.result c.insert.new.self c.closed.result c.new-set.ensures c.insert.ensures c.closed.ensures
