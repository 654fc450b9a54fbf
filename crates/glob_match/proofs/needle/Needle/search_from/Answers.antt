use Rattle.std.proofs.Common.{◌≡◌, ◌+◌, ◌<◌, length, sym, ap, subst, ◌∙◌, arith, true-eqb, false-eqb}
use Rattle.glob_match.specs.Needle.{plain_wanted}
use Rattle.glob_match.specs.Spot.{FirstEnds}
use Rattle.glob_match.proofs.Spots.{known-none, known-some, known-empty}
use Rattle.glob_match.proofs.needle.Needle.search_from.Goals as goal

pub returns-then-is_empty-clause-known : goal.returns-then-is_empty-clause-known
returns-then-is_empty-clause-known c before =
    let n = c.self.inside in
    let none : length c.args.self.now.1 ≡ 0 = sym (ap (λ v. length v.1) c.self.view_is) ∙ sym n.bytes.ok.0 ∙ true-eqb n.bytes.len 0 c.if-is_empty.ensures in
    known-empty c.args.self.now.0 c.args.self.now.1 c.args.text.now none

pub returns-in_default-clause-known : goal.returns-in_default-clause-known
returns-in_default-clause-known c before =
    let n = c.self.inside in
    let some = subst (λ v. 0 < length v.1) c.self.view_is (omega (arith, n.bytes.ok.0, false-eqb n.bytes.len 0 c.if-is_empty.ensures)) in
    known-none c.args.self.now.0 c.args.self.now.1 c.args.text.now some (λ k. omega (arith, c.type_inv.text k)) c.args.from (λ place l h. before place l h some) c.in_default.ensures

pub returns-clause-known : goal.returns-clause-known
returns-clause-known c before =
    let n = c.self.inside in
    let some = subst (λ v. 0 < length v.1) c.self.view_is (omega (arith, n.bytes.ok.0, false-eqb n.bytes.len 0 c.if-is_empty.ensures)) in
    let end : c.in-Some.place + length c.args.self.now.1 ≡ c.in-Some.place + c.len.result = omega (arith, c.len.ensures, n.bytes.ok.0, ap (λ v. length v.1) c.self.view_is) in
    subst (λ e. FirstEnds (plain_wanted c.args.self.now.0 c.args.self.now.1) c.args.text.now e) end
    (known-some c.args.self.now.0 c.args.self.now.1 c.args.text.now some (λ k. omega (arith, c.type_inv.text k)) c.args.from c.in-Some.place (λ place l h. before place l h some) c.in-Some.ensures.0.before c.in-Some.ensures.1)
