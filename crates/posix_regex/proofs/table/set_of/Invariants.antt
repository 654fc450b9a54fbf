use Rattle.std.proofs.Common.{◌≡◌, ◌↔◌, ℕ, ◌-◌, ◌<◌, ◌≤◌, length, slice_index, IsTrue}
use Rattle.posix_regex.specs.Table.{has_state}
use Rattle.posix_regex.proofs.table.set_of.Given as goal

abbrev pub invariant-loop-k : goal.invariant-loop-k
invariant-loop-k l = record {
  within : l.k ≤ length l.reached.order;
  so_far : (s : ℕ) → (IsTrue (has_state l.set s) ↔ ((m : ℕ) × (m < l.k) × (slice_index l.reached.order m ≡ s)));
}

abbrev pub decreases-loop-k : goal.decreases-loop-k
decreases-loop-k l = length l.reached.order - l.k
