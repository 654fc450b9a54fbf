use Rattle.std.proofs.Common.{◌≡◌, ◌+◌, ◌-◌, ◌*◌, ◌≤◌, [], length}
use Rattle.posix_regex.specs.First.{MayBegin, bytes_of}
use Rattle.posix_regex.proofs.Searching.{Waiting}
use Rattle.posix_regex.proofs.search.search.Given as goal

abbrev pub invariant-loop-at : goal.invariant-loop-at
invariant-loop-at g l = record {
  within : l.at ≤ length l.text;
  now_width : l.now.width ≡ length l.states + 1;
  next_width : l.next.width ≡ length l.states + 1;
  waiting : Waiting (MayBegin l.text (bytes_of l.first)) l.states l.text l.now.order l.at;
  empty : l.next.order ≡ [];
  rising : l.initial.steps ≤ l.steps;
  bound : l.steps ≤ l.initial.steps + (length l.states + 1) * l.at;
}

abbrev pub decreases-loop-at : goal.decreases-loop-at
decreases-loop-at g l = length l.text - l.at
