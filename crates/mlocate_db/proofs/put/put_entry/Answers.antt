use Rattle.loc_outside.proofs.LessTaken.{short_first, part_of, err_from, err_short, err_less}
use Rattle.mlocate_db.proofs.put.put_entry.Goals as goal

pub returns-in_err-put_all-clause-short : goal.returns-in_err-put_all-clause-short
returns-in_err-put_all-clause-short g c = rw (← c.byte_of.ensures) (err_from c.from_residual.result _ (short_first _ _ _ _ c.in_err-put_all.ensures.short))

pub returns-in_err-put_all-clause-err : goal.returns-in_err-put_all-clause-err
returns-in_err-put_all-clause-err g c = rw (← c.byte_of.ensures) (err_from c.from_residual.result _ (part_of _ _ _ (short_first _ _ _ _ c.in_err-put_all.ensures.short)))

pub returns-clause-short : goal.returns-clause-short
returns-clause-short g c = rw (← c.byte_of.ensures) (err_short _ _ _ _ _ _ c.in_ok-put_all.ensures.ok c.put_ended.ensures.short)

pub returns-clause-err : goal.returns-clause-err
returns-clause-err g c = rw (← c.byte_of.ensures) (err_less _ _ _ _ _ _ c.in_ok-put_all.ensures.ok c.put_ended.ensures.short)
