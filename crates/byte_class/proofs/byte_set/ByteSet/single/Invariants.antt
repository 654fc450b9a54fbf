use Rattle.std.proofs.Common.{◌≡◌, ℕ, ◌<◌, false}
use Rattle.byte_class.specs.ByteSet.{has}
use Rattle.byte_class.proofs.byte_set.ByteSet.single.Given as goal

abbrev pub invariant-loop-n : goal.invariant-loop-n
invariant-loop-n l = (other : ℕ) → other < l.n → has l.self other ≡ false
