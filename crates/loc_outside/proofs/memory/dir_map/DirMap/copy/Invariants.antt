use Rattle.std.proofs.Common.{◌≡◌, take}
use Rattle.loc_outside.specs.DirMap.{dir_of}
use Rattle.loc_outside.specs.Keyed.{pairs_by}
use Rattle.loc_outside.proofs.memory.dir_map.DirMap.copy.Given as goal

abbrev pub invariant-loop-item : goal.invariant-loop-item
invariant-loop-item l = pairs_by dir_of l.items.items ≡ pairs_by dir_of (take l.item-index l.item-items)
