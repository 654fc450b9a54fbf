use Rattle.std.proofs.Common.{◌≡◌, ◌+◌, false, rules, arith, sym, ap, ◌∙◌, length}
use Rattle.std.proofs.lemmas.List.{length-map, length_push}
use Rattle.locate_tools.specs.Standing.{ends_run}
use Rattle.locate_tools.proofs.Going.{complete_all, complete_next, goes_next, matched_next, on_next, tells_next, tried_as}
use Rattle.locate_tools.proofs.locate_run.try_databases.Goals as goal

pub returns-then-ends_run-clause-goes : goal.returns-then-ends_run-clause-goes
returns-then-ends_run-clause-goes g c =
    let was = c.loop-name.invariant in
    goes_next (λ t. t.now) c.args.names.now c.loop-name.name-index _ _ _ c.loop-name.outcomes.items _ _ _ c.try_database-outcome.result _
    c.loop-name-test.true was.count c.push_reserved.ensures.items was.goes
    (tried_as c.args.asked.now.statistics _ _ _ _ _ _ _ _ c.work_of-work.ensures.value was.matcher c.try_database-outcome.ensures.tried)

pub returns-then-ends_run-clause-complete : goal.returns-then-ends_run-clause-complete
returns-then-ends_run-clause-complete g c =
    let was = c.loop-name.invariant in
    complete_next (λ t. t.now) c.args.names.now c.loop-name.name-index c.loop-name.outcomes.items c.try_database-outcome.result _
    c.loop-name-test.true was.count c.push_reserved.ensures.items was.on (sym c.ends_run.ensures ∙ c.if-ends_run.true)

pub returns-then-ends_run-clause-told : goal.returns-then-ends_run-clause-told
returns-then-ends_run-clause-told g c =
    let was = c.loop-name.invariant in
    tells_next (λ t. t.now) c.args.names.now c.loop-name.name-index _ c.args.asked.now.quiet c.loop-name.outcomes.items c.try_database-outcome.result _ c.loop-name.silent c.tell_after-silent.result _ _ _ _ _ _
    c.loop-name-test.true was.count c.push_reserved.ensures.items was.err_later c.tell_after-silent.ensures.later was.told c.tell_after-silent.ensures.told
    (λ e. let same = c.tell_after-silent.ensures.silent e in (same.0, ap g.E.Sink.taken same.1))

pub loop-name-preserved : goal.loop-name-preserved
loop-name-preserved g c =
    let was = c.loop-name.invariant in
    let done = c.try_database-outcome.ensures in
    let on : ends_run c.try_database-outcome.result ≡ false = sym c.ends_run.ensures ∙ c.if-ends_run.false in
    let tried = tried_as c.args.asked.now.statistics _ (g.M.Matcher.sought c.args.matcher.now) _ c.args.query.now _ _ _ _ c.work_of-work.ensures.value was.matcher done.tried in
    let within = matched_next _ _ _ _ c.try_database-outcome.result _ done.tried in
    record {
      goes = goes_next (λ t. t.now) c.args.names.now c.loop-name.name-index _ _ _ c.loop-name.outcomes.items _ _ _ c.try_database-outcome.result _
          c.loop-name-test.true was.count c.push_reserved.ensures.items was.goes tried;
      none = λ first. absurd (omega (arith, first));
      on = on_next c.loop-name.outcomes.items c.try_database-outcome.result _ c.push_reserved.ensures.items was.on on;
      count = ap length c.push_reserved.ensures.items ∙ (length_push c.loop-name.outcomes.items c.try_database-outcome.result ∙ ap (λ n. n + 1) was.count);
      room = search (rules, c.push_reserved.ensures.capacity, was.room);
      told = tells_next (λ t. t.now) c.args.names.now c.loop-name.name-index _ c.args.asked.now.quiet c.loop-name.outcomes.items c.try_database-outcome.result _ c.loop-name.silent c.tell_after-silent.result _ _ _ _ _ _
          c.loop-name-test.true was.count c.push_reserved.ensures.items was.err_later c.tell_after-silent.ensures.later was.told c.tell_after-silent.ensures.told
          (λ e. let same = c.tell_after-silent.ensures.silent e in (same.0, ap g.E.Sink.taken same.1));
      below = λ plain some. done.under (c.work_of-work.ensures.searches plain) on;
      matched = omega (arith, was.matched, within);
      matcher = done.matcher ∙ was.matcher;
      files = done.files ∙ was.files;
      tests = g.met.G.Gate.keeps_tests _ _ done.gate_kept ∙ was.tests;
      gate_kept = g.met.G.Gate.keeps_on _ _ _ was.gate_kept done.gate_kept;
      out_kept = g.met.P.Sink.keeps_on _ _ _ was.out_kept done.out_kept;
      err_kept = g.met.E.Sink.keeps_on _ _ _ was.err_kept c.tell_after-silent.ensures.kept;
      err_later = omega (arith, was.err_later, c.tell_after-silent.ensures.later);
    }

pub returns-clause-complete : goal.returns-clause-complete
returns-clause-complete g c =
    let was = c.loop-name.invariant in
    complete_all _ c.loop-name.outcomes.items was.on (omega (arith, was.count, length-map c.args.names.now (λ t. t.now)))

pub returns-then-ends_run-clause-none : goal.returns-then-ends_run-clause-none
returns-then-ends_run-clause-none g c = λ none. absurd (omega (arith, c.loop-name-test.true, ap length none))

pub returns-clause-none : goal.returns-clause-none
returns-clause-none g c = λ none. c.loop-name.invariant.none (omega (arith, c.loop-name-test.false, ap length none))
