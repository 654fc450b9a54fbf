use Rattle.std.proofs.Common.{List, inl, refl, sym, ap, subst, ◌∙◌}
use Rattle.tool_words.specs.LocateSeen.{seen}
use Rattle.locate_engine.specs.declared.outcome.Outcome.{Outcome}
use Rattle.locate_tools.specs.LocateRun.{Concludes}
use Rattle.locate_tools.specs.declared.answer.Cause.TheVariants as causes
use Rattle.locate_tools.proofs.Queries.{below_query, none_of, ran_by}
use Rattle.locate_tools.proofs.Runs.{does_run, does_untried, not_both, refused_no_usage, run_done}
use Rattle.locate_tools.proofs.locate_run.locate.Goals as goal

pub try_databases-silent-requires-clause-below : goal.try_databases-silent-requires-clause-below
try_databases-silent-requires-clause-below g c = λ plain some. below_query c.in-Ok.query _ c.in-Ok.ensures (c.databases_of-names.ensures.asks plain some)

pub returns-clause-run : goal.returns-clause-run
returns-clause-run g c =
    let items = c.try_databases-silent.new.outcomes.items in
    does_run (seen c.args.asked.now) _ _ _ _ c.in-Ok-matcher_of.ensures.1
    (run_done (seen c.args.asked.now)
    (record { files = g.R.Reader.files c.args.reader.now; given = g.R.Source.given c.args.reader.now; reads_failed = g.R.Source.faults c.args.reader.now; tests = g.G.Gate.tests c.args.gate.now; asks = g.G.Gate.asks c.args.gate.now; gate_failed = g.G.Gate.faults c.args.gate.now; taken = g.P.Sink.taken c.args.out.now; held_back = g.P.BufferedSink.held_back c.args.out.now; writes_failed = g.P.Sink.faults c.args.out.now; matched = 0 })
    (record { files = g.R.Reader.files c.try_databases-silent.new.reader; given = g.R.Source.given c.try_databases-silent.new.reader; reads_failed = g.R.Source.faults c.try_databases-silent.new.reader; tests = g.G.Gate.tests c.try_databases-silent.new.gate; asks = g.G.Gate.asks c.try_databases-silent.new.gate; gate_failed = g.G.Gate.faults c.try_databases-silent.new.gate; taken = g.P.Sink.taken c.conclude-cause.new.out; held_back = g.P.BufferedSink.held_back c.conclude-cause.new.out; writes_failed = g.P.Sink.faults c.conclude-cause.new.out; matched = 0 })
    c.new.result c.conclude-cause.result refl c.conclude-cause.ensures.remembered
    (ran_by (seen c.args.asked.now) _
    (record { files = g.R.Reader.files c.try_databases-silent.new.reader; given = g.R.Source.given c.try_databases-silent.new.reader; reads_failed = g.R.Source.faults c.try_databases-silent.new.reader; tests = g.G.Gate.tests c.try_databases-silent.new.gate; asks = g.G.Gate.asks c.try_databases-silent.new.gate; gate_failed = g.G.Gate.faults c.try_databases-silent.new.gate; taken = g.P.Sink.taken c.conclude-cause.new.out; held_back = g.P.BufferedSink.held_back c.conclude-cause.new.out; writes_failed = g.P.Sink.faults c.conclude-cause.new.out; matched = 0 })
    (record { files = g.R.Reader.files c.try_databases-silent.new.reader; given = g.R.Source.given c.try_databases-silent.new.reader; reads_failed = g.R.Source.faults c.try_databases-silent.new.reader; tests = g.G.Gate.tests c.try_databases-silent.new.gate; asks = g.G.Gate.asks c.try_databases-silent.new.gate; gate_failed = g.G.Gate.faults c.try_databases-silent.new.gate; taken = g.P.Sink.taken c.try_databases-silent.new.out; held_back = g.P.BufferedSink.held_back c.try_databases-silent.new.out; writes_failed = g.P.Sink.faults c.try_databases-silent.new.out; matched = c.try_databases-silent.new.tally.matched })
    c.new.result items c.conclude-cause.result c.in-Ok.query _ _ c.in-Ok.ensures c.in-Ok-matcher_of.ensures.0 c.databases_of-names.ensures.names c.new.ensures
    c.try_databases-silent.ensures.goes c.try_databases-silent.ensures.complete
    (subst (λ (l : List Outcome). Concludes (seen c.args.asked.now) l c.try_databases-silent.new.tally.matched (g.P.Sink.taken c.try_databases-silent.new.out) (g.P.Sink.taken c.conclude-cause.new.out) (g.P.BufferedSink.held_back c.try_databases-silent.new.out) (g.P.BufferedSink.held_back c.conclude-cause.new.out) (g.P.Sink.faults c.try_databases-silent.new.out) (g.P.Sink.faults c.conclude-cause.new.out) c.conclude-cause.result) c.as_slice.ensures.value c.conclude-cause.ensures.concludes)
    refl refl refl refl))

pub returns-clause-none : goal.returns-clause-none
returns-clause-none g c = λ none. c.try_databases-silent.ensures.none (none_of (λ t. t.now) c.databases_of-names.result.now _ c.databases_of-names.ensures.names none)

pub returns-in_default-clause-run : goal.returns-in_default-clause-run
returns-in_default-clause-run g c =
    does_untried (seen c.args.asked.now)
    (record { files = g.R.Reader.files c.args.reader.now; given = g.R.Source.given c.args.reader.now; reads_failed = g.R.Source.faults c.args.reader.now; tests = g.G.Gate.tests c.args.gate.now; asks = g.G.Gate.asks c.args.gate.now; gate_failed = g.G.Gate.faults c.args.gate.now; taken = g.P.Sink.taken c.args.out.now; held_back = g.P.BufferedSink.held_back c.args.out.now; writes_failed = g.P.Sink.faults c.args.out.now; matched = 0 })
    c.untried.result.outcomes causes.OutOfMemory c.untried.result.cause c.untried.ensures.1 c.untried.ensures.0 (inl refl)

pub returns-in-Err-clause-run : goal.returns-in-Err-clause-run
returns-in-Err-clause-run g c =
    does_untried (seen c.args.asked.now)
    (record { files = g.R.Reader.files c.args.reader.now; given = g.R.Source.given c.args.reader.now; reads_failed = g.R.Source.faults c.args.reader.now; tests = g.G.Gate.tests c.args.gate.now; asks = g.G.Gate.asks c.args.gate.now; gate_failed = g.G.Gate.faults c.args.gate.now; taken = g.P.Sink.taken c.args.out.now; held_back = g.P.BufferedSink.held_back c.args.out.now; writes_failed = g.P.Sink.faults c.args.out.now; matched = 0 })
    c.untried-in-Err.result.outcomes c.in-Err.cause c.untried-in-Err.result.cause c.untried-in-Err.ensures.1 c.untried-in-Err.ensures.0 c.in-Err.ensures

pub returns-in_default-with_capacity-clause-run : goal.returns-in_default-with_capacity-clause-run
returns-in_default-with_capacity-clause-run g c =
    does_untried (seen c.args.asked.now)
    (record { files = g.R.Reader.files c.args.reader.now; given = g.R.Source.given c.args.reader.now; reads_failed = g.R.Source.faults c.args.reader.now; tests = g.G.Gate.tests c.args.gate.now; asks = g.G.Gate.asks c.args.gate.now; gate_failed = g.G.Gate.faults c.args.gate.now; taken = g.P.Sink.taken c.args.out.now; held_back = g.P.BufferedSink.held_back c.args.out.now; writes_failed = g.P.Sink.faults c.args.out.now; matched = 0 })
    c.untried-in_default-with_capacity.result.outcomes causes.OutOfMemory c.untried-in_default-with_capacity.result.cause c.untried-in_default-with_capacity.ensures.1 c.untried-in_default-with_capacity.ensures.0 (inl refl)

pub returns-in-Err-clause-tool : goal.returns-in-Err-clause-tool
returns-in-Err-clause-tool g c = λ usage. refused_no_usage (seen c.args.asked.now) c.in-Err.cause c.in-Err.ensures (sym c.untried-in-Err.ensures.0 ∙ usage)

pub returns-clause-refused : goal.returns-clause-refused
returns-clause-refused g c = λ some. absurd (not_both _ c.in-Ok-matcher_of.ensures.1 some)
