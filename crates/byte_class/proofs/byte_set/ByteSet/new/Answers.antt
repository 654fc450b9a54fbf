use Rattle.byte_class.proofs.Bits.{has-zeros}
use Rattle.byte_class.proofs.byte_set.ByteSet.new.Goals as goal

pub returns : goal.returns
returns c = λ byte fits. has-zeros byte
