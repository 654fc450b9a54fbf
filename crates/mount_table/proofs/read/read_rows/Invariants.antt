use Rattle.std.proofs.Common.{◌≡◌, ◌+◌, ◌-◌, ◌≤◌, length, drop}
use Rattle.mount_table.specs.Part.{with_rows}
use Rattle.mount_table.specs.Table.{mounts_of}
use Rattle.mount_table.proofs.TableLemmas.{mounts_from}
use Rattle.mount_table.proofs.read.read_rows.Given as goal

abbrev pub invariant-loop-at : goal.invariant-loop-at
invariant-loop-at l =
    (l.count ≤ l.at) × (l.at ≤ length l.text + 1) × (mounts_of l.text ≡ with_rows l.rows.items (mounts_from (l.count + 1) (drop l.at l.text)))

abbrev pub decreases-loop-at : goal.decreases-loop-at
decreases-loop-at l = length l.text + 1 - l.at
