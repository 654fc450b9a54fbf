use Rattle.std.proofs.Common.{◌≡◌}
use Rattle.loc_outside.specs.Edits.{changed_at}
use Rattle.sample_trees.specs.FirstTree.{with_more}
use Rattle.sample_trees.specs.Naming.{numbered_from}
use Rattle.sample_trees.proofs.first_tree.put_numbered.Given as goal

abbrev pub invariant-loop-place : goal.invariant-loop-place
invariant-loop-place l = record {
  dirs : l.tree.dirs ≡ changed_at l.fn.tree.dirs l.dir (with_more (numbered_from l.letter l.kind l.from l.place));
  failures : l.tree.failures ≡ l.fn.tree.failures;
}
