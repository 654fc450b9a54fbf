use Rattle.loc_outside.proofs.LessTaken.{err_short}
use Rattle.path_list.proofs.writer.put_path.Goals as goal

pub returns-clause-err : goal.returns-clause-err
returns-clause-err g c =
    rw (← c.byte.ensures) (err_short c.put_all-2.result _ _ _ _ _ c.in_ok-put_all.ensures.ok c.put_all-2.ensures.short)
