use Rattle.std.proofs.Common.{arith}
use Rattle.byte_class.proofs.Bits.{has-with_bit}
use Rattle.byte_class.proofs.byte_set.ByteSet.insert.Goals as goal

pub returns : goal.returns
returns c = λ other fits. has-with_bit c.args.self.now.words c.args.byte other (omega arith) (omega arith)
