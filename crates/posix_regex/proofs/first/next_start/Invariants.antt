use Rattle.std.proofs.Common.{ℕ, ◌-◌, ◌<◌, ◌≤◌, length}
use Rattle.posix_regex.specs.First.{MayBegin, bytes_of}
use Rattle.posix_regex.proofs.first.next_start.Given as goal

abbrev pub invariant-loop-at : goal.invariant-loop-at
invariant-loop-at l = record {
  from : l.from ≤ l.at;
  within : l.at ≤ length l.text;
  none : (k : ℕ) → l.from ≤ k → k < l.at → MayBegin l.text (bytes_of l.first) k → ⊥;
}

abbrev pub decreases-loop-at : goal.decreases-loop-at
decreases-loop-at l = length l.text - l.at
