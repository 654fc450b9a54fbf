use Rattle.std.proofs.Common.{◌≡◌, ◌≤◌, ◌++◌, drop, length}
use Rattle.tree_scan.specs.Admitted.{paths_in}
use Rattle.tree_scan.proofs.directory.push_children.Given as goal

abbrev pub invariant-loop-at : goal.invariant-loop-at
invariant-loop-at l = record {
  path : l.path ≡ l.fn.path;
  within : l.at ≤ length l.names;
  pending : l.pending ≡ paths_in l.fn.path (drop l.at l.names) ++ l.fn.pending;
}

abbrev pub decreases-loop-at : goal.decreases-loop-at
decreases-loop-at l = l.at
