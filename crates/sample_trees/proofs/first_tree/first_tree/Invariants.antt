use Rattle.std.proofs.Common.{◌≡◌, []}
use Rattle.sample_trees.specs.FirstTree.{dirs_below}
use Rattle.sample_trees.specs.Numbers.{state_after}
use Rattle.sample_trees.proofs.first_tree.first_tree.Given as goal

abbrev pub invariant-loop-number : goal.invariant-loop-number
invariant-loop-number l = record {
  dirs : l.tree.dirs ≡ dirs_below l.fn.numbers.state l.number;
  safe : l.tree.failures.due ≡ [];
  state : l.numbers.state ≡ state_after l.fn.numbers.state l.number;
}
