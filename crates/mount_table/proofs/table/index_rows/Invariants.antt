use Rattle.std.proofs.Common.{take}
use Rattle.mount_table.specs.Index.{IsIndex}
use Rattle.mount_table.proofs.table.index_rows.Given as goal

abbrev pub invariant-loop-place : goal.invariant-loop-place
invariant-loop-place l = IsIndex (take l.place l.rows) l.index
