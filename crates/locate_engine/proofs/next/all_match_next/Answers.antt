use Rattle.std.proofs.Common.{arith, false, refl, sym, ◌∙◌}
use Rattle.locate_engine.specs.Globs.{in_glob, steps_of}
use Rattle.locate_engine.proofs.KnownPatterns.{judging_none, judging_more, judging_all, judging_cut}
use Rattle.locate_engine.proofs.Patterns.{all_more, none_here, within_all}
use Rattle.locate_engine.proofs.next.all_match_next.Goals as goal

pub loop-at-init : goal.loop-at-init
loop-at-init g c = record {
  asked = record { answered = refl; later = omega arith; within = omega arith };
  judged = (c.requires.follows.0, c.requires.follows.2, judging_none _ _ _ _ c.requires.follows.1);
}

pub loop-at-preserved : goal.loop-at-preserved
loop-at-preserved g c = record {
  asked = all_more (λ glob. in_glob glob c.args.text.now) (steps_of c.args.text.now) c.args.globs.now c.loop-at.at _ _ _ c.at.result.now (omega (arith, c.loop-at-test.true, c.len-at-end.ensures)) c.at.ensures c.judge.ensures.within c.loop-at.invariant.asked c.judge.ensures.later (sym c.judge.ensures.value ∙ c.if-not-judge.false);
  judged = (c.loop-at.invariant.judged.0, c.loop-at.invariant.judged.1, judging_more _ _ _ _ _ _ _ c.loop-at.invariant.judged.2 c.at.ensures c.judge.ensures.known c.judge.ensures.others);
}

pub returns-then-not-judge-clause-value : goal.returns-then-not-judge-clause-value
returns-then-not-judge-clause-value g c =
    none_here (λ glob. in_glob glob c.args.text.now) (steps_of c.args.text.now) c.args.globs.now c.loop-at.at 0 _ _ c.at.result.now (omega (arith, c.loop-at-test.true, c.len-at-end.ensures)) c.at.ensures c.judge.ensures.within (sym c.judge.ensures.value ∙ c.if-not-judge.true)

pub returns-then-not-judge-clause-known : goal.returns-then-not-judge-clause-known
returns-then-not-judge-clause-known g c = rw c.forget_from.ensures
    (judging_cut _ _ _ _ _ (judging_more _ _ _ _ _ _ _ c.loop-at.invariant.judged.2 c.at.ensures c.judge.ensures.known c.judge.ensures.others))

pub returns-then-not-judge-clause-within : goal.returns-then-not-judge-clause-within
returns-then-not-judge-clause-within g c =
    within_all (λ glob. in_glob glob c.args.text.now) (steps_of c.args.text.now) c.args.globs.now c.loop-at.at _ _ _ c.at.result.now (omega (arith, c.loop-at-test.true, c.len-at-end.ensures)) c.at.ensures c.judge.ensures.within false c.loop-at.invariant.asked

pub returns-clause-known : goal.returns-clause-known
returns-clause-known g c = judging_all _ _ _ _ _ c.loop-at.invariant.judged.2 (omega (arith, c.loop-at-test.false, c.len-at-end.ensures))
