use Rattle.std.proofs.Common.{◌≡◌, ◌*◌, []}
use Rattle.sample_trees.specs.Kept.{AllShown}
use Rattle.sample_trees.specs.Numbers.{state_after}
use Rattle.sample_trees.specs.Rounds.{after_edits, edits_drawn}
use Rattle.sample_trees.proofs.rounds.edit_round.Given as goal

abbrev pub invariant-loop-place : goal.invariant-loop-place
invariant-loop-place l = record {
  dirs : l.tree.dirs ≡ after_edits (edits_drawn l.fn.numbers.state 0 l.round l.place) l.fn.tree.dirs;
  shown : AllShown l.tree.dirs;
  safe : l.tree.failures.due ≡ [];
  state : l.numbers.state ≡ state_after l.fn.numbers.state (3 * l.place);
}
