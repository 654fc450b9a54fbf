use Rattle.std.proofs.Common.{refl}
use Rattle.posix_regex.specs.Token.{token_of_meaning}
use Rattle.posix_regex.proofs.token.read_set.Goals as goal

pub returns-in-Ok-clause-value : goal.returns-in-Ok-clause-value
unfolding token_of_meaning
returns-in-Ok-clause-value c = λ extended taken. rw c.in-Ok.ensures.value refl

pub returns-in-Err-clause-value : goal.returns-in-Err-clause-value
unfolding token_of_meaning
returns-in-Err-clause-value c = λ extended taken. rw c.in-Err.ensures.value refl
