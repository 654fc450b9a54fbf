use Rattle.std.proofs.Common.{length, sym, ap, subst, arith}
use Rattle.glob_match.specs.Needle.{Looks}
use Rattle.glob_match.proofs.Needles.{looks}
use Rattle.glob_match.proofs.needle.Needle.new.Goals as goal

pub invariant_of-result : goal.invariant_of-result
invariant_of-result c some =
    let kept = c.in_ok-from_slice.ensures.items in
    let pair = c.cases_at-small.result in
    subst (λ b. Looks c.args.fold b c.rarest-rare.result pair.0 pair.1) (sym kept)
    (looks c.args.fold c.args.bytes.now c.rarest-rare.result pair (c.rarest-rare.ensures (omega (arith, ap length kept, some))) c.cases_at-small.ensures.folded c.cases_at-small.ensures.exact)
