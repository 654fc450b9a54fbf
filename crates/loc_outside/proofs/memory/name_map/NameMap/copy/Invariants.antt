use Rattle.std.proofs.Common.{◌≡◌, take}
use Rattle.loc_outside.specs.Keyed.{pairs_by}
use Rattle.loc_outside.proofs.memory.name_map.NameMap.copy.Given as goal

abbrev pub invariant-loop-item : goal.invariant-loop-item
invariant-loop-item l = pairs_by (λ kind. kind) l.items.items ≡ pairs_by (λ kind. kind) (take l.item-index l.item-items)
