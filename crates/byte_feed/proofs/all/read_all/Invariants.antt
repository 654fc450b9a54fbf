use Rattle.std.proofs.Common.{◌≡◌, ◌-◌, ◌≤◌, length}
use Rattle.std.specs.Io.KnownBytes.{Consumes}
use Rattle.loc_outside.specs.Causes.{raised}
use Rattle.byte_feed.proofs.all.read_all.Given as goal

abbrev pub invariant-reading : goal.invariant-reading
invariant-reading g l = record {
  taken : Consumes (g.S.Source.left l.fn.src) (g.S.Source.left l.src) l.bytes.items;
  given : g.S.Source.given l.src ≡ raised (g.S.Source.given l.fn.src) (length l.bytes.items);
  within : length l.bytes.items ≤ l.limit;
  faults : g.S.Source.faults l.fn.src ≤ g.S.Source.faults l.src;
  kept : g.S.Source.kept l.fn.src l.src;
}

abbrev pub decreases-reading : goal.decreases-reading
decreases-reading g l = l.limit - length l.bytes.items
