use Rattle.std.proofs.Common.{◌≢◌, ℕ, ◌<◌, get_or}
use Rattle.mount_table.proofs.prefix.shorter_prefix.Given as goal

abbrev pub invariant-loop-end : goal.invariant-loop-end
invariant-loop-end l = (l.end < l.len) × ((k : ℕ) → l.end < k → k < l.len → (k ≢ 1) × (get_or l.path k 0 ≢ 47))

abbrev pub decreases-loop-end : goal.decreases-loop-end
decreases-loop-end l = l.end
