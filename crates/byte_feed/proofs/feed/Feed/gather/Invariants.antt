use Rattle.std.proofs.Common.{◌≡◌, ◌-◌, ◌+◌, ◌≤◌, ◌^◌, true, false, [], take, length}
use Rattle.std.specs.Io.KnownBytes.{IsAtEnd}
use Rattle.byte_feed.specs.Feed.{TookKnown, Draws}
use Rattle.byte_feed.proofs.feed.Feed.gather.Given as goal

abbrev pub invariant-reading : goal.invariant-reading
invariant-reading g l = record {
  took : TookKnown l.fn.self (g.S.Source.left l.fn.src) l.self (g.S.Source.left l.src) [];
  drawn : Draws l.fn.self l.self (g.S.Source.given l.fn.src) (g.S.Source.given l.src) (g.S.Source.left l.fn.src) (g.S.Source.left l.src);
  offset : l.self.offset ≡ l.fn.self.offset;
  begins : take (length l.fn.self.held) l.self.held ≡ l.fn.self.held;
  last : l.fn.self.ended ≡ true → (l.self.ended ≡ true) × (l.src ≡ l.fn.src);
  ends : l.fn.self.ended ≡ false → l.self.ended ≡ true → IsAtEnd (g.S.Source.left l.src);
  bound : l.self.offset + length l.self.held ≤ 2 ^ 40;
  most : length l.self.held ≤ 4096;
  faults : g.S.Source.faults l.fn.src ≤ g.S.Source.faults l.src;
  kept : g.S.Source.kept l.fn.src l.src;
}

abbrev pub decreases-reading : goal.decreases-reading
decreases-reading g l = l.want - length l.self.held
