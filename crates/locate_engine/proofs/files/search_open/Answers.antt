use Rattle.std.proofs.Common.{Err, ap, refl, arith}
use Rattle.byte_feed.proofs.Draws.{draws_then}
use Rattle.locate_engine.specs.Searched.{stand}
use Rattle.locate_engine.proofs.Drawn.{once_opened, reads_drawn}
use Rattle.locate_engine.proofs.Endings.{all_read, failed_there, limit_read, no_limit, not_gate, not_missing, not_write}
use Rattle.locate_engine.proofs.Named.{left_searched}
use Rattle.locate_engine.proofs.Opened.{ended_begin, ended_searched, opened_fails, opened_searched}
use Rattle.locate_engine.proofs.files.search_open.Goals as goal

pub returns-in-Err-clause-there : goal.returns-in-Err-clause-there
returns-in-Err-clause-there g c = rw c.outcome_at.ensures (not_missing (Err c.in-Err.fault))

pub returns-in-Err-clause-limit : goal.returns-in-Err-clause-limit
returns-in-Err-clause-limit g c = rw c.outcome_at.ensures (record { reached = λ e. absurd (no_limit (Err c.in-Err.fault) e); under = λ _. c.requires.below })

pub returns-in-Err-clause-moves : goal.returns-in-Err-clause-moves
returns-in-Err-clause-moves g c = rw c.outcome_at.ensures (record {
  files = g.met.R.Reader.keeps_files _ _ c.in-Err.ensures.kept;
  tests = refl;
  reads = reads_drawn _ _ _ _ _ _ _ _ _ c.in-Err.ensures.ahead.drawn c.in-Err.ensures.ahead.bound c.in-Err.ensures.later (λ e. c.in-Err.ensures.fault (ap Err (failed_there c.in-Err.fault e)));
  matched = omega arith;
  matched_within = omega arith;
  steps = omega arith;
  asks = omega arith;
  gate = omega arith;
  writes = omega arith;
  gate_fault = λ e. absurd (not_gate (Err c.in-Err.fault) e);
  write_fault = λ e. absurd (not_write (Err c.in-Err.fault) e);
})

pub returns-clause-moves : goal.returns-clause-moves
returns-clause-moves g c =
    let moves = c.search_paths.ensures.moves in
    record {
      files = g.met.R.Reader.keeps_files _ _ (g.met.R.Source.keeps_on _ _ _ c.in-Ok.ensures.kept c.search_paths.ensures.kept);
      tests = moves.tests;
      reads = reads_drawn _ _ _ _ _ _ _ _ _ (draws_then _ _ _ _ _ _ _ _ _ c.in-Ok.ensures.ahead.drawn c.search_paths.ensures.drawn) c.search_paths.ensures.stops.below (omega (arith, c.in-Ok.ensures.later, moves.reads.later)) (λ e. omega (arith, c.in-Ok.ensures.later, moves.reads.fault e));
      matched = moves.matched;
      matched_within = moves.matched_within;
      steps = moves.steps;
      asks = moves.asks;
      gate = moves.gate;
      writes = moves.writes;
      gate_fault = moves.gate_fault;
      write_fault = moves.write_fault;
    }

pub returns-in-Err-clause-searches : goal.returns-in-Err-clause-searches
returns-in-Err-clause-searches g c = left_searched (g.M.Matcher.sought c.args.matcher.now) c.args.query.now _ _ _ _
    (rw c.outcome_at.ensures
    (opened_fails (g.M.Matcher.sought c.args.matcher.now).wanted (g.M.Matcher.sought c.args.matcher.now).bound c.args.query.now (g.G.Gate.tests c.args.gate.now)
    (stand (g.P.Sink.taken c.args.out.now) c.args.tally.now.matched (g.G.Gate.asks c.args.gate.now)) c.args.steps.now c.requires.below
    _ c.new-stream.ensures _ _ _ _ _ _ c.in-Err.ensures.err c.in-Err.ensures.ahead.drawn c.in-Err.ensures.ahead.bound))
    (rw c.outcome_at.ensures (ended_begin (g.M.Matcher.sought c.args.matcher.now).bound c.args.steps.now _ c.new-stream.ensures _ _ _ c.in-Err.ensures.err))
    (rw c.outcome_at.ensures (once_opened _ c.new-stream.ensures _ _ _ _ _ _ c.in-Err.ensures.ahead.drawn (all_read (Err c.in-Err.fault) _ _ c.in-Err.ensures.stops) (limit_read (Err c.in-Err.fault) _ _ c.in-Err.ensures.stops)))
    (returns-in-Err-clause-there g c)
    (returns-in-Err-clause-moves g c)

pub returns-clause-searches : goal.returns-clause-searches
returns-clause-searches g c = left_searched (g.M.Matcher.sought c.args.matcher.now) c.args.query.now _ _ _ _
    (opened_searched (g.M.Matcher.sought c.args.matcher.now).wanted (g.M.Matcher.sought c.args.matcher.now).bound c.args.query.now (g.G.Gate.tests c.args.gate.now)
    (stand (g.P.Sink.taken c.args.out.now) c.args.tally.now.matched (g.G.Gate.asks c.args.gate.now))
    (stand (g.P.Sink.taken c.search_paths.new.out) c.search_paths.new.tally.matched (g.G.Gate.asks c.search_paths.new.gate)) c.args.steps.now c.search_paths.new.steps c.search_paths.result
    _ c.new-stream.ensures _ _ _ _ _ _ _ _ _ _ _ c.in-Ok.ensures.preamble c.in-Ok.ensures.ok c.in-Ok.ensures.ahead.drawn c.search_paths.ensures.drawn c.search_paths.ensures.stops.below c.search_paths.ensures.searched)
    (ended_searched (g.M.Matcher.sought c.args.matcher.now).bound c.args.steps.now c.search_paths.new.steps c.search_paths.result _ c.new-stream.ensures _ _ _ _ c.in-Ok.ensures.ok c.search_paths.ensures.ended)
    (once_opened _ c.new-stream.ensures _ _ _ _ _ _ (draws_then _ _ _ _ _ _ _ _ _ c.in-Ok.ensures.ahead.drawn c.search_paths.ensures.drawn) c.search_paths.ensures.stops.whole c.search_paths.ensures.stops.too_large)
    c.search_paths.ensures.stops.there
    (returns-clause-moves g c)
