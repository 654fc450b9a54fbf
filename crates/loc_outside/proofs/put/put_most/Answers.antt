use Rattle.std.proofs.Common.{length, ap, arith, length-drop}
use Rattle.loc_outside.proofs.KnownSteps.{appends_more}
use Rattle.loc_outside.proofs.put.put_most.Goals as goal

pub loop-done-preserved : goal.loop-done-preserved
loop-done-preserved g c = record {
  same = λ none. absurd (omega (arith, ap length none, c.loop-done-test.true));
  within = omega (arith, c.in-Ok.ensures.bound, length-drop c.loop-done.done c.args.piece.now);
  taken = appends_more _ _ _ _ _ _ c.loop-done.invariant.taken c.in-Ok.ensures.bytes;
  faults = omega (arith, c.in-Ok.ensures.cause.later);
  kept = g.met.K.Sink.keeps_on _ _ _ c.loop-done.invariant.kept c.in-Ok.ensures.kept;
}
