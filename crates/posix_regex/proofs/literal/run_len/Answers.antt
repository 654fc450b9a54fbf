use Rattle.std.proofs.Common.{◌≡◌, ◌+◌, ◌-◌, ◌<◌, ◌≤◌, Some, slice_get, sym, ap, ◌∙◌, subst, ⊎_elim, arith}
use Rattle.std.proofs.lemmas.Bool.{cases_lt}
use Rattle.posix_regex.specs.Program.{item_of}
use Rattle.posix_regex.specs.Literal.{TakesOnly}
use Rattle.posix_regex.proofs.Literals.{only_inside}
use Rattle.posix_regex.proofs.literal.run_len.Goals as goal

pub loop-at-preserved : goal.loop-at-preserved
loop-at-preserved c = record {
  from = omega (arith, c.loop-at.invariant.from);
  within = omega (arith, c.loop-at-test.true, c.len.ensures.value);
  alone = λ s from lt. ⊎_elim
      (λ (before : s < c.loop-at.at). c.loop-at.invariant.alone s from before)
      (λ (last : c.loop-at.at ≤ s).
      let e : s ≡ c.loop-at.at = omega arith in
      let there : slice_get c.args.states.now s ≡ Some (item_of c.at.result) = ap (slice_get c.args.states.now) e ∙ c.at.ensures in
      (c.in-Some._byte, subst (λ o. TakesOnly o c.in-Some._byte) (sym there) c.in-Some.ensures))
      (cases_lt s c.loop-at.at);
}

pub returns-clause-ends : goal.returns-clause-ends
returns-clause-ends c = λ byte only.
    absurd (omega (arith, only_inside c.args.states.now (c.args.place + (c.loop-at.at - c.args.place)) byte only, c.loop-at.invariant.from, c.loop-at-test.false, c.len.ensures.value))
