use Rattle.std.proofs.Common.{◌≡◌, ◌+◌, ◌≤◌, ◌-◌, length}
use Rattle.byte_feed.specs.Feed.{TookKnown, Draws}
use Rattle.path_list.proofs.PathSteps.{Part}
use Rattle.path_list.proofs.stream.read_long_path.Given as goal

abbrev pub invariant-bytes : goal.invariant-bytes
invariant-bytes g l = record {
  took : TookKnown l.fn.feed (g.S.Source.left l.fn.src) l.feed (g.S.Source.left l.src) l.path;
  part : Part l.mark l.path;
  offset : l.feed.offset ≡ l.fn.feed.offset + length l.path;
  drawn : Draws l.fn.feed l.feed (g.S.Source.given l.fn.src) (g.S.Source.given l.src) (g.S.Source.left l.fn.src) (g.S.Source.left l.src);
  faults : g.S.Source.faults l.fn.src ≤ g.S.Source.faults l.src;
  kept : g.S.Source.kept l.fn.src l.src;
}

abbrev pub decreases-bytes : goal.decreases-bytes
decreases-bytes g l = 4096 - length l.path
