use Rattle.std.proofs.Common.{ap, sym, ◌∙◌, arith}
use Rattle.byte_feed.proofs.Wants.{looked_fault, looked_ok, looked_err, looked_broke}
use Rattle.mlocate_db.specs.declared.item.Numbers.{Numbers}
use Rattle.mlocate_db.specs.Items.{numbers_at}
use Rattle.mlocate_db.proofs.ItemSteps.{numbers_want}
use Rattle.mlocate_db.proofs.stream.read_numbers.Goals as goal

pub returns-in_default-clause-numbers : goal.returns-in_default-clause-numbers
returns-in_default-clause-numbers g c = looked_fault 16 (λ n. n) numbers_at numbers_want _ _ _ _ c.in_default.ensures.took c.in_default.ensures.going.1 c.in_default.ensures.few

pub returns-in-Ok-numbers-clause-numbers : goal.returns-in-Ok-numbers-clause-numbers
returns-in-Ok-numbers-clause-numbers g c =
    let p = c.pass.ensures in
    looked_ok 16 c.in-Ok.count (λ n. n) numbers_at numbers_want _ _ _ _ _ _ _ c.in-Ok.ensures.took c.in-Ok.ensures.want c.in-Ok.ensures.held (ap numbers_at (sym c.ahead.ensures) ∙ c.in-Ok-numbers.ensures.value) p.held p.ended p.offset (omega (arith, p.bound))

pub returns-in-Err-clause-numbers : goal.returns-in-Err-clause-numbers
returns-in-Err-clause-numbers g c =
    rw (c.broken_at.ensures, c.offset.ensures.value) (looked_err 16 c.in-Ok.count (λ n. n) numbers_at numbers_want _ _ _ _ _ c.in-Ok.ensures.took c.in-Ok.ensures.held c.in-Ok.ensures.all c.in-Ok.ensures.bound (ap numbers_at (sym c.ahead.ensures) ∙ c.in-Err.ensures.value))

pub returns-in-Err-clause-broke : goal.returns-in-Err-clause-broke
returns-in-Err-clause-broke g c =
    rw (c.broken_at.ensures, c.offset.ensures.value) (looked_broke Numbers 16 c.in-Ok.count numbers_at numbers_want _ _ c.in-Ok.ensures.held c.in-Ok.ensures.all (ap numbers_at (sym c.ahead.ensures) ∙ c.in-Err.ensures.value))
