use Rattle.posix_regex.proofs.Members.{bracket-some, bracket-fault}
use Rattle.posix_regex.proofs.bracket.read_bracket.Goals as goal

pub returns-in-Ok-clause-value : goal.returns-in-Ok-clause-value
returns-in-Ok-clause-value c =
    bracket-some c.args.fold c.args.text.now c.in-Ok.set c.closed.result c.in-Ok.taken c.in-Ok.ensures.value (rw c.is_complement.ensures.value at c.closed.ensures)

pub returns-in-Err-clause-value : goal.returns-in-Err-clause-value
returns-in-Err-clause-value c = bracket-fault c.args.fold c.args.text.now c.in-Err.fault c.in-Err.ensures.value
