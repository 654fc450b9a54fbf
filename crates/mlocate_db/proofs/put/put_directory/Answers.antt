use Rattle.std.proofs.Common.{ℕ}
use Rattle.loc_outside.proofs.LessTaken.{err_short, err_less}
use Rattle.mlocate_db.specs.declared.item.Numbers.{Numbers}
use Rattle.mlocate_db.proofs.put.put_directory.Goals as goal

pub returns-clause-short : goal.returns-clause-short
returns-clause-short g c =
    let numbers : ℕ → ℕ → Numbers = λ s n. record { seconds = s; nanos = n; device = c.args.device } in
    let first = rw (c.numbers_bytes.ensures, c.seconds.ensures, c.nanos.ensures.value) at c.in_ok-put_all.ensures.ok in
    err_short c.put_ended.result _ _ _ _ _ first c.put_ended.ensures.short

pub returns-clause-err : goal.returns-clause-err
returns-clause-err g c =
    let numbers : ℕ → ℕ → Numbers = λ s n. record { seconds = s; nanos = n; device = c.args.device } in
    let first = rw (c.numbers_bytes.ensures, c.seconds.ensures, c.nanos.ensures.value) at c.in_ok-put_all.ensures.ok in
    err_less c.put_ended.result _ _ _ _ _ first c.put_ended.ensures.short
