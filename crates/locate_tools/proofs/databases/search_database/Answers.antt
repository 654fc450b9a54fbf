use Rattle.std.proofs.Common.{inl, inr, refl, ap, arith}
use Rattle.locate_tools.proofs.Searching.{search_passed}
use Rattle.locate_tools.proofs.databases.search_database.Goals as goal

pub returns-in-Ok-clause-tried : goal.returns-in-Ok-clause-tried
returns-in-Ok-clause-tried g c =
    let said = c.search_by-ended.ensures in
    search_passed (g.M.Matcher.sought c.args.matcher.now) c.args.query.now c.args.name.now
    (record { files = g.R.Reader.files c.args.reader.now; given = g.R.Source.given c.args.reader.now; reads_failed = g.R.Source.faults c.args.reader.now; tests = g.G.Gate.tests c.args.gate.now; asks = g.G.Gate.asks c.args.gate.now; gate_failed = g.G.Gate.faults c.args.gate.now; taken = g.P.Sink.taken c.args.out.now; held_back = g.P.BufferedSink.held_back c.args.out.now; writes_failed = g.P.Sink.faults c.args.out.now; matched = c.args.tally.now.matched })
    (record { files = g.R.Reader.files c.search_by-ended.new.reader; given = g.R.Source.given c.search_by-ended.new.reader; reads_failed = g.R.Source.faults c.search_by-ended.new.reader; tests = g.G.Gate.tests c.search_by-ended.new.gate; asks = g.G.Gate.asks c.search_by-ended.new.gate; gate_failed = g.G.Gate.faults c.search_by-ended.new.gate; taken = g.P.Sink.taken c.search_by-ended.new.out; held_back = g.P.BufferedSink.held_back c.search_by-ended.new.out; writes_failed = g.P.Sink.faults c.search_by-ended.new.out; matched = c.search_by-ended.new.tally.matched })
    c.args.steps.now c.search_by-ended.new.steps c.search_by-ended.result _ _ _ c.flush.ensures.cause.later (inl refl)
    (λ e. omega (arith, said.searches.moves.write_fault e, c.flush.ensures.cause.later)) said.searches
    _ c.flush.ensures.taken (λ _. c.in-Ok.ensures.flushed) (λ only. ap g.P.Sink.taken (said.only_counted only))

pub returns-in-Err-clause-tried : goal.returns-in-Err-clause-tried
returns-in-Err-clause-tried g c =
    let said = c.search_by-ended.ensures in
    search_passed (g.M.Matcher.sought c.args.matcher.now) c.args.query.now c.args.name.now
    (record { files = g.R.Reader.files c.args.reader.now; given = g.R.Source.given c.args.reader.now; reads_failed = g.R.Source.faults c.args.reader.now; tests = g.G.Gate.tests c.args.gate.now; asks = g.G.Gate.asks c.args.gate.now; gate_failed = g.G.Gate.faults c.args.gate.now; taken = g.P.Sink.taken c.args.out.now; held_back = g.P.BufferedSink.held_back c.args.out.now; writes_failed = g.P.Sink.faults c.args.out.now; matched = c.args.tally.now.matched })
    (record { files = g.R.Reader.files c.search_by-ended.new.reader; given = g.R.Source.given c.search_by-ended.new.reader; reads_failed = g.R.Source.faults c.search_by-ended.new.reader; tests = g.G.Gate.tests c.search_by-ended.new.gate; asks = g.G.Gate.asks c.search_by-ended.new.gate; gate_failed = g.G.Gate.faults c.search_by-ended.new.gate; taken = g.P.Sink.taken c.search_by-ended.new.out; held_back = g.P.BufferedSink.held_back c.search_by-ended.new.out; writes_failed = g.P.Sink.faults c.search_by-ended.new.out; matched = c.search_by-ended.new.tally.matched })
    c.args.steps.now c.search_by-ended.new.steps c.search_by-ended.result _ _ _ c.flush.ensures.cause.later (inr refl)
    (λ _. omega (arith, said.searches.moves.writes, c.in-Err.ensures.cause.failed)) said.searches
    _ c.flush.ensures.taken (λ other. absurd (other refl)) (λ only. ap g.P.Sink.taken (said.only_counted only))
