use Rattle.glob_match.proofs.Units.{literal-exact, literal-folded}
use Rattle.glob_match.proofs.reading.push_literal.Goals as goal

pub returns-then-not-fold : goal.returns-then-not-fold
returns-then-not-fold c = rw (c.if-not-fold.true, literal-exact c.args.byte) c.push_byte.ensures

pub returns : goal.returns
returns c = rw (c.if-not-fold.false, literal-folded c.args.byte c.new-set.result c.insert.new.self c.closed.result c.new-set.ensures c.insert.ensures c.closed.ensures) c.push_set.ensures
