use Rattle.std.proofs.Common.{◌<◌, ◌≤◌, length}
use Rattle.mount_table.specs.Part.{EndsPrefix, NoneLonger}
use Rattle.mount_table.proofs.table.Mounts.deciding.Given as goal

abbrev pub invariant-loop-len : goal.invariant-loop-len
invariant-loop-len l = (l.len ≤ length l.path) × NoneLonger l.path l.len l.fn.self × (0 < l.len → EndsPrefix l.path l.len)

abbrev pub decreases-loop-len : goal.decreases-loop-len
decreases-loop-len l = l.len
