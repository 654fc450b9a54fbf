use Rattle.std.proofs.Common.{◌≡◌, ℕ, ◌<◌, ◌&&◌, ltb}
use Rattle.byte_class.specs.ByteSet.{has}
use Rattle.byte_class.specs.ByteSet.{in_set}
use Rattle.byte_class.proofs.byte_set.ByteSet.closed.Given as goal

abbrev pub invariant-loop-n : goal.invariant-loop-n
invariant-loop-n l = (other : ℕ) → other < 256 → has l.closed other ≡ (ltb other l.n && in_set l.fold l.complement (has l.self) other)
