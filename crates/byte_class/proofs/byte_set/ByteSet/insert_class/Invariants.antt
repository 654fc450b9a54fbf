use Rattle.std.proofs.Common.{◌≡◌, ℕ, ◌<◌, ◌||◌, ◌&&◌, ltb}
use Rattle.byte_class.specs.ByteSet.{has}
use Rattle.byte_class.specs.Class.{class_has}
use Rattle.byte_class.proofs.byte_set.ByteSet.insert_class.Given as goal

abbrev pub invariant-loop-n : goal.invariant-loop-n
invariant-loop-n l = (other : ℕ) → other < 256 → has l.self other ≡ (has l.initial.self other || (ltb other l.n && class_has l.class other))
