use Rattle.std.proofs.Common.{[], Some, length, get_or, refl, sym, ap, ◌∙◌, arith}
use Rattle.db_convert.proofs.Refused.{refused_first, refused_none}
use Rattle.db_convert.proofs.admission.first_refused.Goals as goal

pub returns-then-not-is_admitted_at : goal.returns-then-not-is_admitted_at
returns-then-not-is_admitted_at c =
    ap (λ cause. Some (c.paths.at, cause)) c.refusal.ensures
    ∙ refused_first c.args.to c.args.paths.now c.paths.at (omega (arith, c.paths-test.true, c.len-at-end.ensures)) c.paths.invariant (sym c.is_admitted_at.ensures ∙ c.if-not-is_admitted_at.true)

pub returns-then-holds_all : goal.returns-then-holds_all
returns-then-holds_all c = refused_none c.args.to c.args.paths.now (length c.args.paths.now) refl (λ k _. c.holds_all.ensures c.if-holds_all.true (get_or c.args.paths.now k []))

pub returns : goal.returns
returns c = refused_none c.args.to c.args.paths.now c.paths.at (omega (arith, c.paths-test.false, c.paths.auto.at-end, c.len-at-end.ensures)) c.paths.invariant
