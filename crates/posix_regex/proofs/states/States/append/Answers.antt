use Rattle.posix_regex.specs.Program.{item_of}
use Rattle.posix_regex.proofs.Rows.{append_next}
use Rattle.posix_regex.proofs.states.States.append.Goals as goal

pub loop-n-preserved : goal.loop-n-preserved
loop-n-preserved c =
    append_next c.args.self.now c.loop-n.self c.push.new.self c.args.other.now c.loop-n.n (item_of c.at.result) c.loop-n.invariant c.at.ensures c.in_ok-push.ensures
