use Rattle.posix_regex.proofs.Fragments.{end_sized}
use Rattle.posix_regex.proofs.fragment.Fragment.end.Goals as goal

pub returns : goal.returns
returns c = end_sized c.push.new.self c.new-states.result c.new-states.ensures c.in_ok-push.ensures
