use Rattle.std.proofs.Common.{◌≡◌, ◌+◌, ◌*◌, ◌≤◌, ◌++◌, length}
use Rattle.bigram_db.specs.Items.{spell_units}
use Rattle.bigram_db.specs.Spelled.{units_for}
use Rattle.bigram_db.proofs.writer.push_units.Given as goal

abbrev pub invariant-pairs : goal.invariant-pairs
invariant-pairs l = record {
  bytes : l.piece.items ++ spell_units (units_for l.table l.left) ≡ l.fn.piece.items ++ spell_units (units_for l.table l.fn.text);
  room : length l.piece.items + 2 * length l.left ≤ 8197;
}

abbrev pub decreases-pairs : goal.decreases-pairs
decreases-pairs l = length l.left
