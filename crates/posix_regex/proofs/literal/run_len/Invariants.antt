use Rattle.std.proofs.Common.{ℕ, ◌-◌, ◌<◌, ◌≤◌, length, slice_get}
use Rattle.posix_regex.specs.Literal.{TakesOnly}
use Rattle.posix_regex.proofs.literal.run_len.Given as goal

abbrev pub invariant-loop-at : goal.invariant-loop-at
invariant-loop-at l = record {
  from : l.place ≤ l.at;
  within : l.at ≤ length l.states;
  alone : (s : ℕ) → l.place ≤ s → s < l.at → (byte : ℕ) × TakesOnly (slice_get l.states s) byte;
}

abbrev pub decreases-loop-at : goal.decreases-loop-at
decreases-loop-at l = length l.states - l.at
