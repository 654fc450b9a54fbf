use Rattle.posix_regex.proofs.Needles.{none_if_lacking}
use Rattle.posix_regex.proofs.regex.lacks.Goals as goal

pub returns-in-Some : goal.returns-in-Some
returns-in-Some c =
    rw c.in-Some.is (none_if_lacking c.args.text.now c.in-Some.finder c.find.result c.is_none.result c.is_none.ensures c.find.ensures)
