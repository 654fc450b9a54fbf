use Rattle.std.proofs.Common.{◌≡◌, length, take}
use Rattle.mount_table.specs.Index.{Tops}
use Rattle.mount_table.proofs.table.mark_tops.Given as goal

abbrev pub invariant-loop-row : goal.invariant-loop-row
invariant-loop-row l = (length l.tops.items ≡ 256) × Tops (take l.row-index l.rows) l.tops.items
