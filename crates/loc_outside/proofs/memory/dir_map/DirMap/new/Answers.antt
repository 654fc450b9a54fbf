use Rattle.std.proofs.Common.{◌∙◌, ap}
use Rattle.loc_outside.specs.DirMap.{dir_of, dirs_of}
use Rattle.loc_outside.proofs.KeyedMaps.{map_of_none}
use Rattle.loc_outside.proofs.memory.dir_map.DirMap.new.Goals as goal

pub returns : goal.returns
returns c = ap dirs_of c.new.ensures.items ∙ map_of_none dir_of
