use Rattle.byte_class.specs.ByteSet.{has, members}
use Rattle.posix_regex.proofs.Fragments.{one_of_sized}
use Rattle.posix_regex.proofs.fragment.Fragment.one_of.Goals as goal

pub returns : goal.returns
returns c = one_of_sized c.push.new.self c.new-states.result (members (has c.args.set)) c.new-states.ensures c.in_ok-push.ensures
