use Rattle.std.proofs.Common.{◌≡◌, ◌-◌, ◌≤◌, length, drop}
use Rattle.mount_table.specs.Escape.{unescaped}
use Rattle.mount_table.proofs.EscapeLemmas.{after_bytes}
use Rattle.mount_table.proofs.escape.unescape.Given as goal

abbrev pub invariant-loop-at : goal.invariant-loop-at
invariant-loop-at l = (l.at ≤ length l.text) × (unescaped l.text ≡ after_bytes l.bytes.items (unescaped (drop l.at l.text)))

abbrev pub decreases-loop-at : goal.decreases-loop-at
decreases-loop-at l = length l.text - l.at
