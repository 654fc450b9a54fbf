use Rattle.loc_outside.proofs.LessTaken.{err_short}
use Rattle.mlocate_db.proofs.put.put_ended.Goals as goal

pub returns-clause-short : goal.returns-clause-short
returns-clause-short g c = err_short _ _ _ _ _ _ c.in_ok-put_all.ensures.ok c.put_all-2.ensures.short
