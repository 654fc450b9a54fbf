use Rattle.std.proofs.Common.{rules}
use Rattle.posix_regex.proofs.Marks.{are_marked-none}
use Rattle.posix_regex.proofs.state_set.StateSet.new.Goals as goal

pub invariant_of-result : goal.invariant_of-result
invariant_of-result c =
    are_marked-none c.in_ok-order.order.items c.in_ok-marks.marks.items c.args.width (search rules) (search rules)
