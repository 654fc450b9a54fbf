use Rattle.std.proofs.Common.{◌≡◌, false, take}
use Rattle.tree_scan.specs.Records.{is_vouched}
use Rattle.dir_reuse.proofs.kept.first_that_vouches.Given as goal

abbrev pub invariant-loop-at : goal.invariant-loop-at
invariant-loop-at l = is_vouched (take l.at l.kept) l.dir l.stamp l.device ≡ false
