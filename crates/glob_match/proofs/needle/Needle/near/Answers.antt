use Rattle.std.proofs.Common.{◌+◌, ◌<◌, length, subst, arith, false-eqb}
use Rattle.memchr.specs.Find.{Nowhere}
use Rattle.glob_match.specs.Needle.{Stands}
use Rattle.glob_match.proofs.Needles.{none_near, none_before}
use Rattle.glob_match.proofs.needle.Needle.near.Goals as goal

pub returns-in-Some-clause-near : goal.returns-in-Some-clause-near
returns-in-Some-clause-near c =
    let n = c.self.inside in
    let some : 0 < length n.bytes.items = omega (arith, n.bytes.ok.0, false-eqb n.bytes.len 0 c.if-is_empty.ensures) in
    let looks = c.self.invariant some in
    subst (λ v. Nowhere (Stands v.0 v.1 c.args.text.now) c.args.first c.max.result) c.self.view_is
    (none_before n.fold n.bytes.items c.args.text.now n.rare n.small n.big looks c.args.first c.min-start.result c.in-Some.more c.max.result
    (omega (arith, c.min-start.ensures)) (omega (arith, c.max.ensures, c.saturating_sub-in-Some.ensures)) c.in-Some.ensures.0.before)

pub returns-in-None-clause-near : goal.returns-in-None-clause-near
returns-in-None-clause-near c =
    let n = c.self.inside in
    let some : 0 < length n.bytes.items = omega (arith, n.bytes.ok.0, false-eqb n.bytes.len 0 c.if-is_empty.ensures) in
    let looks = c.self.invariant some in
    subst (λ v. Nowhere (Stands v.0 v.1 c.args.text.now) c.args.first (length c.args.text.now + 1)) c.self.view_is
    (none_near n.fold n.bytes.items c.args.text.now n.rare n.small n.big looks c.args.first c.min-start.result (length c.args.text.now + 1)
    (omega (arith, c.min-start.ensures)) (omega (arith, c.min-start.ensures, c.saturating_sub.ensures)) c.in-None.ensures)
