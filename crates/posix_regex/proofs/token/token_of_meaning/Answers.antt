use Rattle.posix_regex.proofs.token.token_of_meaning.Goals as goal

pub returns-in-Bracket-clause-value : goal.returns-in-Bracket-clause-value
returns-in-Bracket-clause-value c = rw c.in-Bracket.is (c.read_set.ensures.value c.args.extended c.args.taken)

pub returns-in-Interval-clause-value : goal.returns-in-Interval-clause-value
returns-in-Interval-clause-value c = rw c.in-Interval.is (c.read_suffix.ensures.value c.args.fold)
