use Rattle.std.proofs.Common.{◌≡◌, ℕ, ◌<◌, ◌||◌, ◌&&◌, ltb}
use Rattle.byte_class.specs.ByteSet.{has}
use Rattle.posix_regex.proofs.first.add_all.Given as goal

abbrev pub invariant-loop-n : goal.invariant-loop-n
invariant-loop-n l = (other : ℕ) → other < 256 → has l.bytes other ≡ (has l.initial.bytes other || (ltb other l.n && has l.more other))
