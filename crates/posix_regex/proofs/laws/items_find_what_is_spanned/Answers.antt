use Rattle.posix_regex.proofs.Found.{end_found, found_end}
use Rattle.posix_regex.proofs.laws.items_find_what_is_spanned.Goals as goal

pub returns : goal.returns
returns c = λ e text. (end_found e text, found_end e text)
