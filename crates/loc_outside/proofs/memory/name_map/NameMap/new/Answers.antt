use Rattle.std.proofs.Common.{◌∙◌, ap}
use Rattle.loc_outside.specs.Keyed.{names_of}
use Rattle.loc_outside.proofs.KeyedMaps.{map_of_none}
use Rattle.loc_outside.proofs.memory.name_map.NameMap.new.Goals as goal

pub returns : goal.returns
returns c = ap names_of c.new.ensures.items ∙ map_of_none (λ kind. kind)
