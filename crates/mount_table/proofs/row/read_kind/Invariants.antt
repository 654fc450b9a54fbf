use Rattle.std.proofs.Common.{◌≡◌, length}
use Rattle.std.specs.List.{after_first}
use Rattle.std.specs.Prelude.{bytes_eq, codes}
use Rattle.mount_table.specs.Line.{fields}
use Rattle.mount_table.proofs.row.read_kind.Given as goal

abbrev pub invariant-loop-field : goal.invariant-loop-field
invariant-loop-field l = after_first (bytes_eq (codes "-")) (fields l.text) ≡ after_first (bytes_eq (codes "-")) (fields l.rest)

abbrev pub decreases-loop-field : goal.decreases-loop-field
decreases-loop-field l = length l.rest
