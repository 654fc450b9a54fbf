use Rattle.std.proofs.Common.{◌^◌, ◌-◌, ◌≤◌, List, IsTrue}
use Rattle.std.specs.List.{All}
use Rattle.byte_feed.specs.Feed.{Draws}
use Rattle.byte_feed.specs.Paths.{PathAt, IsPath, after_paths}
use Rattle.byte_feed.specs.Calls.{MovedKnown}
use Rattle.db_convert.proofs.ReadPaths.{texts}
use Rattle.db_convert.proofs.reading.read_on.Given as goal

abbrev pub invariant-paths : goal.invariant-paths
invariant-paths g l = record {
  live : IsTrue (g.P.PathStream.is_live l.stream);
  given : (given : List PathAt)
      × MovedKnown (g.P.PathStream.to_come l.fn.stream) (g.P.PathStream.to_come l.stream) (after_paths given) (g.P.PathStream.feed l.fn.stream) (g.S.Source.left l.fn.src) (g.P.PathStream.feed l.stream) (g.S.Source.left l.src)
      × g.C.Gathers.holds l.into (texts given)
      × All IsPath (texts given);
  drawn : Draws (g.P.PathStream.feed l.fn.stream) (g.P.PathStream.feed l.stream) (g.S.Source.given l.fn.src) (g.S.Source.given l.src) (g.S.Source.left l.fn.src) (g.S.Source.left l.src);
  src : g.S.Source.kept l.fn.src l.src;
  later : g.S.Source.faults l.fn.src ≤ g.S.Source.faults l.src;
}

abbrev pub decreases-paths : goal.decreases-paths
decreases-paths g l = 2 ^ 40 - g.P.PathStream.stored l.stream
