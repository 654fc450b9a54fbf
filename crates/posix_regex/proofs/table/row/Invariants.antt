use Rattle.std.proofs.Common.{◌≡◌, ℕ, ◌+◌, ◌<◌, ◌≤◌, ◌==◌, length, slice_index}
use Rattle.posix_regex.specs.Table.{Entry, Grown}
use Rattle.posix_regex.proofs.table.row.Given as goal

abbrev pub invariant-loop-byte : goal.invariant-loop-byte
invariant-loop-byte g l = record {
  now_width : l.now.width ≡ length l.states + 1;
  next_width : l.next.width ≡ length l.states + 1;
  grown : Grown l.initial.sets.items l.sets.items;
  few : length l.sets.items ≤ 128;
  longer : length l.initial.sets.items ≤ length l.sets.items;
  len : length l.entries ≡ 256;
  entries : (b : ℕ) → b < l.byte → Entry l.states l.sets.items (l.number == 0) b l.set (slice_index l.entries b);
}
