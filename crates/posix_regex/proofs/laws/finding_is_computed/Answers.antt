use Rattle.posix_regex.proofs.Finds.{finds_found, found_finds}
use Rattle.posix_regex.proofs.laws.finding_is_computed.Goals as goal

pub returns : goal.returns
returns c = λ e text. (finds_found e text, found_finds e text)
