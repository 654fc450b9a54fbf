use Rattle.posix_regex.proofs.Fragments.{start_sized}
use Rattle.posix_regex.proofs.fragment.Fragment.start.Goals as goal

pub returns : goal.returns
returns c = start_sized c.push.new.self c.new-states.result c.new-states.ensures c.in_ok-push.ensures
