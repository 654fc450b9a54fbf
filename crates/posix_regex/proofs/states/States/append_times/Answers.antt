use Rattle.std.proofs.Common.{◌++◌, arith}
use Rattle.posix_regex.specs.Program.{copies}
use Rattle.posix_regex.proofs.Rows.{append_copies}
use Rattle.posix_regex.proofs.states.States.append_times.Goals as goal

pub loop-n-preserved : goal.loop-n-preserved
loop-n-preserved c =
    append_copies c.loop-n.self c.append.new.self (c.args.self.now ++ copies c.args.count c.args.other.now) c.args.other.now c.args.count c.loop-n.n (omega arith) c.loop-n.invariant c.in_ok-append.ensures
