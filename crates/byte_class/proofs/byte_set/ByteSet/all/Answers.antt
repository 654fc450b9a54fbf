use Rattle.byte_class.proofs.Bits.{has-ones}
use Rattle.byte_class.proofs.byte_set.ByteSet.all.Goals as goal

pub returns : goal.returns
returns c = λ byte fits. has-ones byte fits
