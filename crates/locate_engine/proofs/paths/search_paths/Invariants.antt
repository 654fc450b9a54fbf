use Rattle.std.proofs.Common.{◌≡◌, ◌^◌, ◌-◌, ◌+◌, ◌≤◌, ◌<◌, ◌||◌, List, IfSome, IsTrue}
use Rattle.loc_outside.specs.Gates.{Tests}
use Rattle.byte_feed.specs.Feed.{Draws}
use Rattle.byte_feed.specs.Paths.{PathAt, after_paths}
use Rattle.byte_feed.specs.Calls.{MovedKnown}
use Rattle.locate_engine.specs.Passing.{rule_of}
use Rattle.locate_engine.specs.Searched.{stand, steps_over}
use Rattle.locate_engine.specs.Streamed.{OneDirectoryLeft}
use Rattle.locate_engine.specs.Asked.{Tells}
use Rattle.locate_engine.proofs.Exits.{SoFar}
use Rattle.locate_engine.proofs.paths.search_paths.Given as goal

abbrev pub invariant-paths : goal.invariant-paths
invariant-paths g l = record {
  live : IsTrue (g.P.PathStream.is_live l.stream);
  gone : (given : List PathAt)
      × MovedKnown (g.P.PathStream.to_come l.fn.stream) (g.P.PathStream.to_come l.stream) (after_paths given) (g.P.PathStream.feed l.fn.stream) (g.S.Source.left l.fn.src) (g.P.PathStream.feed l.stream) (g.S.Source.left l.src)
      × (l.steps ≤ l.fn.steps + steps_over (g.M.Matcher.sought l.fn.matcher).bound given)
      × ((told : Tests) → Tells (g.P.PathStream.is_gated l.fn.stream || l.query.existing) (g.G.Gate.tests l.fn.gate) told → OneDirectoryLeft (g.P.PathStream.is_gated l.fn.stream) (g.P.PathStream.to_come l.fn.stream) (g.P.PathStream.feed l.fn.stream) (g.S.Source.left l.fn.src) →
      SoFar (rule_of (g.M.Matcher.sought l.fn.matcher).wanted l.query (g.P.PathStream.is_gated l.fn.stream) told) (g.M.Matcher.sought l.fn.matcher).bound (g.P.PathStream.to_come l.fn.stream) (g.P.PathStream.feed l.fn.stream) (g.S.Source.left l.fn.src) given l.block
      (stand (g.K.Sink.taken l.fn.out) l.fn.tally.matched (g.G.Gate.asks l.fn.gate)) (stand (g.K.Sink.taken l.out) l.tally.matched (g.G.Gate.asks l.gate)) l.fn.steps l.steps);
  rises : l.fn.tally.matched ≤ l.tally.matched;
  within : l.tally.matched ≤ l.fn.tally.matched + g.P.PathStream.stored l.stream;
  below : IfSome l.query.limit (λ limit. l.tally.matched < limit);
  only_counted : IsTrue l.query.count_only → l.out ≡ l.fn.out;
  steps : l.fn.steps ≤ l.steps;
  drawn : Draws (g.P.PathStream.feed l.fn.stream) (g.P.PathStream.feed l.stream) (g.S.Source.given l.fn.src) (g.S.Source.given l.src) (g.S.Source.left l.fn.src) (g.S.Source.left l.src);
  src : g.S.Source.kept l.fn.src l.src;
  gate : g.G.Gate.kept l.fn.gate l.gate;
  sink : g.K.Sink.kept l.fn.out l.out;
  read : g.S.Source.faults l.fn.src ≤ g.S.Source.faults l.src;
  answered : g.G.Gate.faults l.fn.gate ≤ g.G.Gate.faults l.gate;
  written : g.K.Sink.faults l.fn.out ≤ g.K.Sink.faults l.out;
  asked : g.G.Gate.asks l.fn.gate ≤ g.G.Gate.asks l.gate;
  gated : g.P.PathStream.is_gated l.stream ≡ g.P.PathStream.is_gated l.fn.stream;
  tests : g.G.Gate.tests l.gate ≡ g.G.Gate.tests l.fn.gate;
  sought : g.M.Matcher.sought l.matcher ≡ g.M.Matcher.sought l.fn.matcher;
  knows : g.M.Matcher.knows l.matcher (g.P.PathStream.found l.stream).text;
}

abbrev pub decreases-paths : goal.decreases-paths
decreases-paths g l = 2 ^ 40 - g.P.PathStream.stored l.stream
