use Rattle.std.proofs.Common.{ap, ◌/◌, ◌%◌, ◌==◌, slice_index}
use Rattle.std.proofs.lemmas.Nat.Bits.{shr_and_one}
use Rattle.byte_class.specs.ByteSet.{has}
use Rattle.byte_class.proofs.byte_set.ByteSet.contains.Goals as goal

pub returns : goal.returns
unfolding has
returns c = ap (λ bit. bit == 1) (shr_and_one (slice_index c.args.self.now.words (c.args.byte / 64)) (c.args.byte % 64))
