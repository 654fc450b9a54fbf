use Rattle.std.proofs.Common.{◌≡◌, ◌+◌, ◌*◌, ◌<◌, ◌≤◌, ◌^◌, length, map, false, vec_capacity}
use Rattle.std.specs.Prelude.{IfSome}
use Rattle.locate_tools.specs.LocateExact.{work_by}
use Rattle.locate_tools.specs.Standing.{Goes}
use Rattle.locate_tools.specs.Tried.{Tried}
use Rattle.locate_tools.specs.Told.{TellsAs, messages}
use Rattle.locate_tools.proofs.Going.{GoOn}
use Rattle.locate_tools.proofs.locate_run.try_databases.Given as goal

abbrev pub invariant-loop-name : goal.invariant-loop-name
invariant-loop-name g l = record {
  goes : Goes (Tried (work_by l.asked.statistics (g.M.Matcher.sought l.initial.matcher)) l.query) (map (λ t. t.now) l.names) l.outcomes.items
      (record { files = g.R.Reader.files l.initial.reader; given = g.R.Source.given l.initial.reader; reads_failed = g.R.Source.faults l.initial.reader; tests = g.G.Gate.tests l.initial.gate; asks = g.G.Gate.asks l.initial.gate; gate_failed = g.G.Gate.faults l.initial.gate; taken = g.P.Sink.taken l.initial.out; held_back = g.P.BufferedSink.held_back l.initial.out; writes_failed = g.P.Sink.faults l.initial.out; matched = l.initial.tally.matched })
      (record { files = g.R.Reader.files l.reader; given = g.R.Source.given l.reader; reads_failed = g.R.Source.faults l.reader; tests = g.G.Gate.tests l.gate; asks = g.G.Gate.asks l.gate; gate_failed = g.G.Gate.faults l.gate; taken = g.P.Sink.taken l.out; held_back = g.P.BufferedSink.held_back l.out; writes_failed = g.P.Sink.faults l.out; matched = l.tally.matched });
  none : l.name-index ≡ 0 → (l.reader ≡ l.initial.reader) × (l.gate ≡ l.initial.gate);
  on : GoOn l.outcomes.items;
  count : length l.outcomes.items ≡ l.name-index;
  room : length l.names ≤ vec_capacity l.outcomes;
  told : TellsAs l.silent (g.E.Sink.faults l.initial.err) (g.E.Sink.faults l.err) (g.E.Sink.taken l.initial.err) (g.E.Sink.taken l.err) (messages l.asked.quiet (map (λ t. t.now) l.names) l.outcomes.items);
  below : l.asked.statistics ≡ false → 0 < length l.names → IfSome l.query.limit (λ limit. l.tally.matched < limit);
  matched : l.tally.matched ≤ l.initial.tally.matched + 2 ^ 40 * l.name-index;
  matcher : g.M.Matcher.sought l.matcher ≡ g.M.Matcher.sought l.initial.matcher;
  files : g.R.Reader.files l.reader ≡ g.R.Reader.files l.initial.reader;
  tests : g.G.Gate.tests l.gate ≡ g.G.Gate.tests l.initial.gate;
  gate_kept : g.G.Gate.kept l.initial.gate l.gate;
  out_kept : g.P.Sink.kept l.initial.out l.out;
  err_kept : g.E.Sink.kept l.initial.err l.err;
  err_later : g.E.Sink.faults l.initial.err ≤ g.E.Sink.faults l.err;
}
