use Rattle.std.proofs.Common.{◌≡◌, length, take}
use Rattle.mount_table.specs.Index.{Marks}
use Rattle.mount_table.proofs.table.mark_rows.Given as goal

abbrev pub invariant-loop-row : goal.invariant-loop-row
invariant-loop-row l = (length l.marks.items ≡ 256) × Marks (take l.row-index l.rows) l.marks.items
