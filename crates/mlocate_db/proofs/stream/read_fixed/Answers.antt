use Rattle.std.proofs.Common.{ap, sym, ◌∙◌, arith}
use Rattle.byte_feed.proofs.Wants.{looked_fault, looked_ok, looked_err, looked_broke}
use Rattle.mlocate_db.specs.declared.item.Fixed.{Fixed}
use Rattle.mlocate_db.specs.Items.{fixed_at}
use Rattle.mlocate_db.proofs.ItemSteps.{fixed_want}
use Rattle.mlocate_db.proofs.stream.read_fixed.Goals as goal

pub returns-in_default-clause-fixed : goal.returns-in_default-clause-fixed
returns-in_default-clause-fixed g c = looked_fault 16 (λ n. n) fixed_at fixed_want _ _ _ _ c.in_default.ensures.took c.in_default.ensures.going.1 c.in_default.ensures.few

pub returns-in-Ok-fixed-clause-fixed : goal.returns-in-Ok-fixed-clause-fixed
returns-in-Ok-fixed-clause-fixed g c =
    let p = c.pass.ensures in
    looked_ok 16 c.in-Ok.count (λ n. n) fixed_at fixed_want _ _ _ _ _ _ _ c.in-Ok.ensures.took c.in-Ok.ensures.want c.in-Ok.ensures.held (ap fixed_at (sym c.ahead.ensures) ∙ c.in-Ok-fixed.ensures) p.held p.ended p.offset (omega (arith, p.bound))

pub returns-in-Err-clause-fixed : goal.returns-in-Err-clause-fixed
returns-in-Err-clause-fixed g c =
    rw (c.broken_at.ensures, c.offset.ensures.value) (looked_err 16 c.in-Ok.count (λ n. n) fixed_at fixed_want _ _ _ _ _ c.in-Ok.ensures.took c.in-Ok.ensures.held c.in-Ok.ensures.all c.in-Ok.ensures.bound (ap fixed_at (sym c.ahead.ensures) ∙ c.in-Err.ensures))

pub returns-in-Err-clause-broke : goal.returns-in-Err-clause-broke
returns-in-Err-clause-broke g c =
    rw (c.broken_at.ensures, c.offset.ensures.value) (looked_broke Fixed 16 c.in-Ok.count fixed_at fixed_want _ _ c.in-Ok.ensures.held c.in-Ok.ensures.all (ap fixed_at (sym c.ahead.ensures) ∙ c.in-Err.ensures))
