use Rattle.std.proofs.Common.{◌≡◌, true, length, []}
use Rattle.sample_trees.specs.Rounds.{first_in}
use Rattle.sample_trees.proofs.rounds.next_file.Given as goal

abbrev pub decreases-names : goal.decreases-names
decreases-names l = length l.tree.rest

abbrev pub invariant-names : goal.invariant-names
invariant-names l = record {
  listing : l.tree.listing ≡ true;
  safe : l.tree.failures.due ≡ [];
  first : first_in l.tree.rest ≡ first_in l.fn.tree.rest;
  dirs : l.tree.dirs ≡ l.fn.tree.dirs;
}
