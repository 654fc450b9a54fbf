use Rattle.std.proofs.Common.{◌≡◌, ◌*◌, ◌^◌, ◌-◌, ◌≤◌, List, length, sum_by, IsTrue}
use Rattle.byte_feed.specs.Feed.{Draws}
use Rattle.byte_feed.specs.Paths.{PathAt, after_paths}
use Rattle.byte_feed.specs.Calls.{MovedKnown}
use Rattle.locate_engine.specs.Statistics.{name_len}
use Rattle.locate_engine.proofs.counting.count_paths.Given as goal

abbrev pub invariant-paths : goal.invariant-paths
invariant-paths g l = record {
  live : IsTrue (g.P.PathStream.is_live l.stream);
  counted : (given : List PathAt)
      × MovedKnown (g.P.PathStream.to_come l.fn.stream) (g.P.PathStream.to_come l.stream) (after_paths given) (g.P.PathStream.feed l.fn.stream) (g.S.Source.left l.fn.src) (g.P.PathStream.feed l.stream) (g.S.Source.left l.src)
      × (l.files ≡ length given)
      × (l.name_bytes ≡ sum_by name_len given);
  files : l.files ≤ g.P.PathStream.stored l.stream;
  name_bytes : l.name_bytes ≤ 4096 * l.files;
  drawn : Draws (g.P.PathStream.feed l.fn.stream) (g.P.PathStream.feed l.stream) (g.S.Source.given l.fn.src) (g.S.Source.given l.src) (g.S.Source.left l.fn.src) (g.S.Source.left l.src);
  src : g.S.Source.kept l.fn.src l.src;
  read : g.S.Source.faults l.fn.src ≤ g.S.Source.faults l.src;
}

abbrev pub decreases-paths : goal.decreases-paths
decreases-paths g l = 2 ^ 40 - g.P.PathStream.stored l.stream
