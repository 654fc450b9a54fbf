use Rattle.posix_regex.proofs.Fragments.{empty_sized}
use Rattle.posix_regex.proofs.fragment.Fragment.empty.Goals as goal

pub returns : goal.returns
returns c = empty_sized c.new.result c.new.ensures
