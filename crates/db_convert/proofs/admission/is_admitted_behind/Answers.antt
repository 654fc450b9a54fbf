use Rattle.std.proofs.Common.{arith}
use Rattle.db_convert.proofs.NextAdmitted.{admitted_by_name}
use Rattle.db_convert.proofs.admission.is_admitted_behind.Goals as goal

pub returns-then-path-le-MAX_PATH : goal.returns-then-path-le-MAX_PATH
returns-then-path-le-MAX_PATH c =
    admitted_by_name c.args.before.now c.args.path.now c.base_start-start.result _ _ c.requires c.base_start-start.ensures.start (omega (arith, c.if-start-eq0.false)) (omega (arith, c.if-before-start.false))
    c.if-ne.false c.ne.ensures c.is_name.ensures c.if-path-le-MAX_PATH.true
