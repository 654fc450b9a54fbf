use Rattle.posix_regex.proofs.Sets.{any_byte-set}
use Rattle.posix_regex.proofs.token.any_byte.Goals as goal

pub returns : goal.returns
returns c = any_byte-set c.all.result c.all.ensures
