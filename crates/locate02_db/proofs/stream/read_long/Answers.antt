use Rattle.std.proofs.Common.{ap, sym, ◌∙◌, arith}
use Rattle.byte_feed.proofs.Wants.{looked_fault, looked_ok, looked_err, looked_broke}
use Rattle.locate02_db.specs.declared.change.Change.{Change}
use Rattle.locate02_db.specs.Items.{long_at}
use Rattle.locate02_db.proofs.ItemSteps.{long_want}
use Rattle.locate02_db.proofs.stream.read_long.Goals as goal

pub returns-in_default-clause-change : goal.returns-in_default-clause-change
returns-in_default-clause-change g c = looked_fault 2 (λ x. x) long_at long_want _ _ _ _ c.in_default.ensures.took c.in_default.ensures.going.1 c.in_default.ensures.few

pub returns-in-Ok-long-clause-change : goal.returns-in-Ok-long-clause-change
returns-in-Ok-long-clause-change g c =
    let p = c.pass.ensures in
    looked_ok 2 c.in-Ok.count (λ x. x) long_at long_want _ _ _ _ _ _ _ c.in-Ok.ensures.took c.in-Ok.ensures.want c.in-Ok.ensures.held (ap long_at (sym c.ahead.ensures) ∙ c.in-Ok-long.ensures) p.held p.ended p.offset (omega (arith, p.bound))

pub returns-in-Err-clause-change : goal.returns-in-Err-clause-change
returns-in-Err-clause-change g c =
    rw (c.broken_at.ensures, c.offset.ensures.value) (looked_err 2 c.in-Ok.count (λ x. x) long_at long_want _ _ _ _ _ c.in-Ok.ensures.took c.in-Ok.ensures.held c.in-Ok.ensures.all c.in-Ok.ensures.bound (ap long_at (sym c.ahead.ensures) ∙ c.in-Err.ensures))

pub returns-in-Err-clause-broke : goal.returns-in-Err-clause-broke
returns-in-Err-clause-broke g c =
    rw (c.broken_at.ensures, c.offset.ensures.value) (looked_broke Change 2 c.in-Ok.count long_at long_want _ _ c.in-Ok.ensures.held c.in-Ok.ensures.all (ap long_at (sym c.ahead.ensures) ∙ c.in-Err.ensures))
