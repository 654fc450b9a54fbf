use Rattle.std.proofs.lemmas.List.Sorted.{IsPermutation-trans}
use Rattle.db_convert.proofs.order.sort_stretches.Goals as goal

pub returns-in_err-sort_names : goal.returns-in_err-sort_names
returns-in_err-sort_names c = IsPermutation-trans _ _ _ c.stretches.invariant c.sort_names.ensures

pub stretches-preserved : goal.stretches-preserved
stretches-preserved c = IsPermutation-trans _ _ _ c.stretches.invariant c.sort_names.ensures
