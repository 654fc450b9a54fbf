use Rattle.std.proofs.Common.{◌≡◌, ℕ, ◌+◌, ◌<◌, ◌≤◌, ◌||◌, ◌&&◌, max, leb, ltb}
use Rattle.byte_class.specs.ByteSet.{has}
use Rattle.byte_class.proofs.byte_set.ByteSet.insert_range.Given as goal

abbrev pub invariant-loop-n : goal.invariant-loop-n
invariant-loop-n l =
    ((other : ℕ) → other < 256 → has l.self other ≡ (has l.initial.self other || (leb l.low other && ltb other l.n))) × (l.n ≤ max l.low (l.high + 1))
