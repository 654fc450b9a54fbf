use Rattle.std.proofs.Common.{◌≡◌, ◌+◌, ◌<◌, ◌≤◌, ◌-◌, length, take, drop, All}
use Rattle.byte_feed.specs.Feed.{TookKnown, Draws}
use Rattle.byte_feed.proofs.stream.read_long_ended.Given as goal

abbrev pub invariant-bytes : goal.invariant-bytes
invariant-bytes g l = record {
  begins : take (length l.fn.into) l.into ≡ l.fn.into;
  took : TookKnown l.fn.feed (g.S.Source.left l.fn.src) l.feed (g.S.Source.left l.src) (drop (length l.fn.into) l.into);
  plain : All (λ b. 0 < b) (drop (length l.fn.into) l.into);
  start : l.start ≡ length l.fn.into;
  grows : length l.fn.into ≤ length l.into;
  fits : length l.into ≤ 4096;
  offset : l.feed.offset + length l.fn.into ≡ l.fn.feed.offset + length l.into;
  drawn : Draws l.fn.feed l.feed (g.S.Source.given l.fn.src) (g.S.Source.given l.src) (g.S.Source.left l.fn.src) (g.S.Source.left l.src);
  faults : g.S.Source.faults l.fn.src ≤ g.S.Source.faults l.src;
  kept : g.S.Source.kept l.fn.src l.src;
}

abbrev pub decreases-bytes : goal.decreases-bytes
decreases-bytes g l = 4096 - length l.into
