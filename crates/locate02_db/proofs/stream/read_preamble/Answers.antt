use Rattle.std.proofs.Common.{ap, sym, ◌∙◌, arith}
use Rattle.byte_feed.specs.Field.{magic_at}
use Rattle.byte_feed.proofs.Wants.{wants_magic, looked_fault, looked_ok, looked_err, looked_broke}
use Rattle.locate02_db.specs.Items.{magic}
use Rattle.locate02_db.proofs.stream.read_preamble.Goals as goal

pub returns-in_default-clause-preamble : goal.returns-in_default-clause-preamble
returns-in_default-clause-preamble g c = looked_fault 10 (λ u. u) (magic_at magic) (wants_magic magic) _ _ _ _ c.in_default.ensures.took c.in_default.ensures.going.1 c.in_default.ensures.few

pub returns-in-Ok-behind_magic-clause-preamble : goal.returns-in-Ok-behind_magic-clause-preamble
returns-in-Ok-behind_magic-clause-preamble g c =
    let p = c.pass.ensures in
    looked_ok 10 c.in-Ok.count (λ u. u) (magic_at magic) (wants_magic magic) _ _ _ _ _ tt _ c.in-Ok.ensures.took c.in-Ok.ensures.want c.in-Ok.ensures.held (ap (magic_at magic) (sym c.ahead.ensures) ∙ c.in-Ok-behind_magic.ensures) p.held p.ended p.offset (omega (arith, p.bound))

pub returns-in-Err-clause-preamble : goal.returns-in-Err-clause-preamble
returns-in-Err-clause-preamble g c =
    rw (c.broken_at.ensures, c.offset.ensures.value) (looked_err 10 c.in-Ok.count (λ u. u) (magic_at magic) (wants_magic magic) _ _ _ _ _ c.in-Ok.ensures.took c.in-Ok.ensures.held c.in-Ok.ensures.all c.in-Ok.ensures.bound (ap (magic_at magic) (sym c.ahead.ensures) ∙ c.in-Err.ensures))

pub returns-in-Err-clause-broke : goal.returns-in-Err-clause-broke
returns-in-Err-clause-broke g c =
    rw (c.broken_at.ensures, c.offset.ensures.value) (looked_broke (Unit {0}) 10 c.in-Ok.count (magic_at magic) (wants_magic magic) _ _ c.in-Ok.ensures.held c.in-Ok.ensures.all (ap (magic_at magic) (sym c.ahead.ensures) ∙ c.in-Err.ensures))
