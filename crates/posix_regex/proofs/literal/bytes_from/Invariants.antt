use Rattle.std.proofs.Common.{◌≡◌, ◌+◌, ◌-◌, ◌≤◌, length}
use Rattle.posix_regex.specs.Literal.{TakeInTurn}
use Rattle.posix_regex.proofs.literal.bytes_from.Given as goal

abbrev pub invariant-loop-at : goal.invariant-loop-at
invariant-loop-at l = record {
  from : l.at ≡ l.place + length l.bytes.items;
  within : l.at ≤ length l.states;
  in_turn : TakeInTurn l.states l.place l.bytes.items;
}

abbrev pub decreases-loop-at : goal.decreases-loop-at
decreases-loop-at l = length l.states - l.at
