use Rattle.std.proofs.Common.{◌≡◌, ◌+◌, ◌-◌, ◌<◌, ◌≤◌, All, length, take, drop}
use Rattle.bigram_db.specs.Entries.{SpellsText}
use Rattle.bigram_db.proofs.unit.push_units.Given as goal

abbrev pub invariant-units : goal.invariant-units
invariant-units l = record {
  within : l.taken ≤ length l.bytes;
  units : SpellsText l.table (take l.taken l.bytes) (drop (length l.fn.path) l.path);
  begins : take (length l.fn.path) l.path ≡ l.fn.path;
  grown : l.taken + length l.fn.path ≤ length l.path;
  plain : All (λ b. 0 < b) l.path;
  fits : length l.path ≤ 4096;
}

abbrev pub decreases-units : goal.decreases-units
decreases-units l = length l.bytes - l.taken
