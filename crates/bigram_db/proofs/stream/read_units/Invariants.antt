use Rattle.std.proofs.Common.{◌≡◌, ◌+◌, ◌-◌, ◌*◌, ◌<◌, ◌≤◌, All, length, take, drop}
use Rattle.byte_feed.specs.Feed.{Draws}
use Rattle.bigram_db.proofs.EntryReads.{SoFarKnown}
use Rattle.bigram_db.proofs.stream.read_units.Given as goal

abbrev pub invariant-units : goal.invariant-units
invariant-units g l = record {
  begins : take (length l.fn.path) l.path ≡ l.fn.path;
  read : SoFarKnown l.table (4096 - length l.fn.path) (drop (length l.fn.path) l.path) l.fn.feed (g.S.Source.left l.fn.src) l.feed (g.S.Source.left l.src);
  grown : length l.fn.path ≤ length l.path;
  plain : All (λ b. 0 < b) l.path;
  fits : length l.path ≤ 4096;
  forth : l.fn.feed.offset ≤ l.feed.offset;
  near : l.feed.offset + 2 * length l.fn.path ≤ l.fn.feed.offset + 2 * length l.path;
  drawn : Draws l.fn.feed l.feed (g.S.Source.given l.fn.src) (g.S.Source.given l.src) (g.S.Source.left l.fn.src) (g.S.Source.left l.src);
  faults : g.S.Source.faults l.fn.src ≤ g.S.Source.faults l.src;
  kept : g.S.Source.kept l.fn.src l.src;
}

abbrev pub decreases-units : goal.decreases-units
decreases-units g l = 4096 - length l.path
