use Rattle.std.proofs.Common.{◌≡◌, ◌+◌, ◌*◌, [], map}
use Rattle.std.specs.List.{range_with_len}
use Rattle.sample_trees.specs.Numbers.{state_after}
use Rattle.sample_trees.specs.Rounds.{dirs_after}
use Rattle.sample_trees.specs.Steps.{step_after}
use Rattle.sample_trees.proofs.steps.sample_steps.Given as goal

abbrev pub invariant-loop-round : goal.invariant-loop-round
invariant-loop-round l = record {
  dirs : l.tree.dirs ≡ dirs_after l.fn.seed l.round;
  safe : l.tree.failures.due ≡ [];
  state : l.numbers.state ≡ state_after l.fn.seed (2001 + 30 * l.round);
  steps : l.steps.items ≡ map (step_after l.fn.seed) (range_with_len 0 (l.round + 1));
}
