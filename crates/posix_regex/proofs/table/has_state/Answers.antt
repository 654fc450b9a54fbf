use Rattle.std.proofs.Common.{ap, ◌==◌}
use Rattle.std.proofs.lemmas.Nat.Bits.{shr_and_one}
use Rattle.posix_regex.specs.Table.{has_state}
use Rattle.posix_regex.proofs.table.has_state.Goals as goal

pub returns : goal.returns
unfolding has_state
returns c = ap (λ bit. bit == 1) (shr_and_one c.args.set c.args.state)
