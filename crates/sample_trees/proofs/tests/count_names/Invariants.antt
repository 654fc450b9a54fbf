use Rattle.std.proofs.Common.{◌≡◌, true}
use Rattle.sample_trees.proofs.tests.count_names.Given as goal

abbrev pub invariant-loop-count : goal.invariant-loop-count
invariant-loop-count l = l.tree.listing ≡ true
