use Rattle.std.proofs.Common.{◌≡◌, take}
use Rattle.dir_reuse.proofs.kept.copy_names.Given as goal

abbrev pub invariant-loop-at : goal.invariant-loop-at
invariant-loop-at l = l.into ≡ take l.at l.from
