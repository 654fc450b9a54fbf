use Rattle.posix_regex.proofs.Tables.{has-with}
use Rattle.posix_regex.proofs.table.with_state.Goals as goal

pub returns : goal.returns
returns c = λ other. has-with c.args.set c.args.state other c.requires
