use Rattle.std.proofs.Common.{◌≡◌, ◌⊎◌, ℕ, ◌<◌, Contains, IsTrue}
use Rattle.posix_regex.specs.Table.{has_state}
use Rattle.posix_regex.proofs.table.insert_all.Given as goal

abbrev pub invariant-loop-state : goal.invariant-loop-state
invariant-loop-state l = record {
  width : l.now.width ≡ l.initial.now.width;
  kept : (s : ℕ) → Contains l.initial.now.order s → Contains l.now.order s;
  has : (s : ℕ) → s < l.state → IsTrue (has_state l.set s) → Contains l.now.order s;
  only : (s : ℕ) → Contains l.now.order s → Contains l.initial.now.order s ⊎ ((s < l.below) × IsTrue (has_state l.set s));
}
