use Rattle.std.proofs.Common.{◌≡◌, ◌⊎◌, ℕ, ◌+◌, ◌-◌, ◌<◌, ◌≤◌, length, slice_get, slice_index, Contains}
use Rattle.posix_regex.specs.Moves.{Leads, Still}
use Rattle.posix_regex.proofs.search.spread.Given as goal

abbrev pub invariant-loop-k : goal.invariant-loop-k
invariant-loop-k g l = record {
  now_width : l.now.width ≡ l.initial.now.width;
  next_width : l.next.width ≡ l.initial.next.width;
  so_far : l.k ≤ length l.now.order;
  kept : (s : ℕ) → Contains l.initial.now.order s → Contains l.now.order s;
  sound : (s : ℕ) → Contains l.now.order s → Still l.states l.text l.initial.now.order l.at s;
  next_sound : (s : ℕ) → Contains l.next.order s → (t : ℕ) × Contains l.now.order t × Leads l.text (slice_get l.states t) t l.at s (l.at + 1);
  closed : (m u j : ℕ) → m < l.k → Leads l.text (slice_get l.states (slice_index l.now.order m)) (slice_index l.now.order m) l.at u j → u ≤ length l.states
      → ((j ≡ l.at) × Contains l.now.order u) ⊎ ((j ≡ l.at + 1) × Contains l.next.order u);
  unfinished : (m : ℕ) → m < l.k → slice_index l.now.order m ≡ length l.states → ⊥;
  rising : l.initial.steps ≤ l.steps;
  bound : l.steps ≤ l.initial.steps + l.k;
}

abbrev pub decreases-loop-k : goal.decreases-loop-k
decreases-loop-k g l = l.now.width - l.k
