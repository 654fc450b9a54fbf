use Rattle.loc_outside.proofs.LessTaken.{err_short}
use Rattle.locate02_db.proofs.writer.put_ended.Goals as goal

pub returns-clause-err : goal.returns-clause-err
returns-clause-err g c = err_short _ _ _ _ _ _ c.in_ok-put_all.ensures.ok c.put_all-2.ensures.short
