use Rattle.loc_outside.proofs.LessTaken.{short_first, short_after, part_of, err_from, err_short, err_less}
use Rattle.mlocate_db.proofs.put.put_header.Goals as goal

pub returns-in_err-put_all-clause-short : goal.returns-in_err-put_all-clause-short
returns-in_err-put_all-clause-short g c =
    let fixed = rw c.fixed_bytes.ensures at c.in_err-put_all.ensures.short in
    err_from c.from_residual.result _ (short_first _ _ _ _ fixed)

pub returns-in_err-put_all-clause-err : goal.returns-in_err-put_all-clause-err
returns-in_err-put_all-clause-err g c =
    let fixed = rw c.fixed_bytes.ensures at c.in_err-put_all.ensures.short in
    err_from c.from_residual.result _ (part_of _ _ _ (short_first _ _ _ _ fixed))

pub returns-in_err-put_ended-clause-short : goal.returns-in_err-put_ended-clause-short
returns-in_err-put_ended-clause-short g c =
    let fixed = rw c.fixed_bytes.ensures at c.in_ok-put_all.ensures.ok in
    err_from c.from_residual-in_err-put_ended.result _ (short_after _ _ _ _ _ fixed (short_first _ _ _ _ c.in_err-put_ended.ensures.short))

pub returns-in_err-put_ended-clause-err : goal.returns-in_err-put_ended-clause-err
returns-in_err-put_ended-clause-err g c =
    let fixed = rw c.fixed_bytes.ensures at c.in_ok-put_all.ensures.ok in
    err_from c.from_residual-in_err-put_ended.result _ (part_of _ _ _ (short_after _ _ _ _ _ fixed (short_first _ _ _ _ c.in_err-put_ended.ensures.short)))

pub returns-clause-short : goal.returns-clause-short
returns-clause-short g c =
    let fixed = rw c.fixed_bytes.ensures at c.in_ok-put_all.ensures.ok in
    err_short _ _ _ _ _ _ fixed (err_short _ _ _ _ _ _ c.in_ok-put_ended.ensures.ok c.put_all-2.ensures.short)

pub returns-clause-err : goal.returns-clause-err
returns-clause-err g c =
    let fixed = rw c.fixed_bytes.ensures at c.in_ok-put_all.ensures.ok in
    err_less _ _ _ _ _ _ fixed (err_short _ _ _ _ _ _ c.in_ok-put_ended.ensures.ok c.put_all-2.ensures.short)
