use Rattle.std.proofs.Common.{arith}
use Rattle.std.proofs.lemmas.Bool.{false≢true}
use Rattle.glob_match.proofs.Walk.{fails_untaken, passed_more}
use Rattle.glob_match.proofs.matching.next_start.Goals as goal

pub loop-start-preserved : goal.loop-start-preserved
loop-start-preserved g c = record {
  forth = omega (arith, c.loop-start.invariant.forth);
  within = omega arith;
  passed = passed_more c.args.items.now c.args.text.now c.args.item c.args.from c.loop-start.start c.loop-start.invariant.passed
      (fails_untaken c.args.items.now c.args.text.now c.args.item c.loop-start.start (omega arith) (λ e. false≢true (c.if-is_star.ensures.1 e)) c.if-takes.ensures.value);
  rising = omega (arith, c.loop-start.invariant.rising);
  cost = omega (arith, c.loop-start.invariant.cost, c.loop-start.invariant.forth);
}
