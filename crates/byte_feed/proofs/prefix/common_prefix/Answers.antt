use Rattle.std.proofs.Common.{arith, sym}
use Rattle.std.proofs.lemmas.Bool.{ne_eqb}
use Rattle.byte_feed.proofs.CommonPrefix.{common_is}
use Rattle.byte_feed.proofs.prefix.common_prefix.Goals as goal

pub returns-else-a-same-clause-value : goal.returns-else-a-same-clause-value
returns-else-a-same-clause-value c =
    let inv = c.loop-same.invariant in
    sym (common_is c.loop-same.same c.args.a.now c.args.b.now inv.0 inv.1 inv.2 (λ _ _. ne_eqb _ _ c.if-a-same.false))

pub returns-after-loop-same-clause-value : goal.returns-after-loop-same-clause-value
returns-after-loop-same-clause-value c =
    let inv = c.loop-same.invariant in
    sym (common_is c.loop-same.same c.args.a.now c.args.b.now inv.0 inv.1 inv.2 (λ left right. absurd (omega (arith, c.loop-same-test.false, c.min-len.ensures, left, right))))
