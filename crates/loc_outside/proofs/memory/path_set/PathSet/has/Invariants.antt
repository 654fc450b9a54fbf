use Rattle.std.proofs.Common.{◌≡◌, drop}
use Rattle.loc_outside.specs.Memory.{is_among, paths_of}
use Rattle.loc_outside.proofs.memory.path_set.PathSet.has.Given as goal

abbrev pub invariant-loop-known : goal.invariant-loop-known
invariant-loop-known l = is_among (paths_of l.known-items) l.path ≡ is_among (paths_of (drop l.known-index l.known-items)) l.path
