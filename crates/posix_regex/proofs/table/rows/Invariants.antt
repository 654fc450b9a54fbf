use Rattle.std.proofs.Common.{◌≡◌, ◌+◌, ◌-◌, ◌≤◌, length, slice_get, Some}
use Rattle.posix_regex.specs.Table.{AreRows}
use Rattle.posix_regex.proofs.table.rows.Given as goal

abbrev pub invariant-loop-rows : goal.invariant-loop-rows
invariant-loop-rows g l = record {
  now_width : l.now.width ≡ length l.states + 1;
  next_width : l.next.width ≡ length l.states + 1;
  few : length l.sets.items ≤ 128;
  within : length l.rows.items ≤ length l.sets.items;
  first : slice_get l.sets.items 0 ≡ Some 0;
  made : AreRows l.states l.sets.items l.rows.items;
}

abbrev pub decreases-loop-rows : goal.decreases-loop-rows
decreases-loop-rows g l = 128 - length l.rows.items
