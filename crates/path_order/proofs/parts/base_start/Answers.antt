use Rattle.path_order.proofs.NameStarts.{name_from, name_length}
use Rattle.path_order.proofs.parts.base_start.Goals as goal

pub returns-clause-base : goal.returns-clause-base
returns-clause-base c = name_from _ _ c.after_slash.ensures

pub returns-clause-place : goal.returns-clause-place
returns-clause-place c = name_length _ _ c.after_slash.ensures
