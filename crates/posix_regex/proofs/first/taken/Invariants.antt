use Rattle.std.proofs.Common.{◌↔◌, ℕ, ◌-◌, ◌<◌, ◌≤◌, length, slice_get, slice_index, IsTrue}
use Rattle.byte_class.specs.ByteSet.{has}
use Rattle.posix_regex.specs.First.{CanTake}
use Rattle.posix_regex.proofs.first.taken.Given as goal

abbrev pub invariant-loop-k : goal.invariant-loop-k
invariant-loop-k l = record {
  within : l.k ≤ length l.reached.order;
  so_far : (byte : ℕ) → byte < 256 → (IsTrue (has l.bytes byte) ↔ ((m : ℕ) × (m < l.k) × CanTake (slice_get l.states (slice_index l.reached.order m)) byte));
}

abbrev pub decreases-loop-k : goal.decreases-loop-k
decreases-loop-k l = length l.reached.order - l.k
