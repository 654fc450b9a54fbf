use Rattle.db_convert.proofs.ReadBack.{all_back, mlocate_items, all_told}
use Rattle.db_convert.proofs.laws.written_is_read_back.Goals as goal

pub returns-clause-given : goal.returns-clause-given
returns-clause-given c = λ to paths h. all_back to paths h.readable h.admitted h.below

pub returns-clause-items : goal.returns-clause-items
returns-clause-items c = λ paths h. mlocate_items paths h.readable h.admitted h.below

pub returns-clause-told : goal.returns-clause-told
returns-clause-told c = λ to paths. all_told to paths
