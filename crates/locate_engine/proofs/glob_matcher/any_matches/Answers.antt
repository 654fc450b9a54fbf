use Rattle.std.proofs.Common.{drop, arith, true, sym, ◌∙◌}
use Rattle.locate_engine.specs.Globs.{in_glob, steps_of}
use Rattle.locate_engine.proofs.Patterns.{any_more, any_here, within_all}
use Rattle.locate_engine.proofs.glob_matcher.any_matches.Goals as goal

pub returns-then-matches-clause-value : goal.returns-then-matches-clause-value
returns-then-matches-clause-value g c =
    any_here (λ glob. in_glob glob (drop c.args.from c.args.path.now)) (steps_of (drop c.args.from c.args.path.now)) c.args.globs.now c.loop-at.at 0 _ _ c.at.result.now (omega (arith, c.loop-at-test.true, c.len-at-end.ensures)) c.at.ensures c.matches.ensures.within (sym c.matches.ensures.value ∙ c.if-matches.true)

pub returns-then-matches-clause-within : goal.returns-then-matches-clause-within
returns-then-matches-clause-within g c =
    within_all (λ glob. in_glob glob (drop c.args.from c.args.path.now)) (steps_of (drop c.args.from c.args.path.now)) c.args.globs.now c.loop-at.at _ _ _ c.at.result.now (omega (arith, c.loop-at-test.true, c.len-at-end.ensures)) c.at.ensures c.matches.ensures.within true c.loop-at.invariant

pub loop-at-preserved : goal.loop-at-preserved
loop-at-preserved g c =
    any_more (λ glob. in_glob glob (drop c.args.from c.args.path.now)) (steps_of (drop c.args.from c.args.path.now)) c.args.globs.now c.loop-at.at _ _ _ c.at.result.now (omega (arith, c.loop-at-test.true, c.len-at-end.ensures)) c.at.ensures c.matches.ensures.within c.loop-at.invariant c.matches.ensures.later (sym c.matches.ensures.value ∙ c.if-matches.false)
