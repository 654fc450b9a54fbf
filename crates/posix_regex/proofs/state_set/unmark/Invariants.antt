use Rattle.std.proofs.Common.{◌≡◌, ℕ, ◌<◌, length, drop, get_or, false, true, Contains}
use Rattle.posix_regex.proofs.state_set.unmark.Given as goal

abbrev pub invariant-loop-k : goal.invariant-loop-k
invariant-loop-k l = record {
  same_length : length l.marks.items ≡ length l.initial.marks.items;
  left : (s : ℕ) → s < length l.marks.items → get_or l.marks.items s false ≡ true → Contains (drop l.k l.listed) s;
}
