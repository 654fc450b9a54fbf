use Rattle.std.proofs.Common.{drop, arith, false, sym, ◌∙◌}
use Rattle.locate_engine.specs.Globs.{in_glob, steps_of}
use Rattle.locate_engine.proofs.Patterns.{all_more, none_here, within_all}
use Rattle.locate_engine.proofs.glob_matcher.all_match.Goals as goal

pub returns-then-not-matches-clause-value : goal.returns-then-not-matches-clause-value
returns-then-not-matches-clause-value g c =
    none_here (λ glob. in_glob glob (drop c.args.from c.args.path.now)) (steps_of (drop c.args.from c.args.path.now)) c.args.globs.now c.loop-at.at 0 _ _ c.at.result.now (omega (arith, c.loop-at-test.true, c.len-at-end.ensures)) c.at.ensures c.matches.ensures.within (sym c.matches.ensures.value ∙ c.if-not-matches.true)

pub returns-then-not-matches-clause-within : goal.returns-then-not-matches-clause-within
returns-then-not-matches-clause-within g c =
    within_all (λ glob. in_glob glob (drop c.args.from c.args.path.now)) (steps_of (drop c.args.from c.args.path.now)) c.args.globs.now c.loop-at.at _ _ _ c.at.result.now (omega (arith, c.loop-at-test.true, c.len-at-end.ensures)) c.at.ensures c.matches.ensures.within false c.loop-at.invariant

pub loop-at-preserved : goal.loop-at-preserved
loop-at-preserved g c =
    all_more (λ glob. in_glob glob (drop c.args.from c.args.path.now)) (steps_of (drop c.args.from c.args.path.now)) c.args.globs.now c.loop-at.at _ _ _ c.at.result.now (omega (arith, c.loop-at-test.true, c.len-at-end.ensures)) c.at.ensures c.matches.ensures.within c.loop-at.invariant c.matches.ensures.later (sym c.matches.ensures.value ∙ c.if-not-matches.false)
