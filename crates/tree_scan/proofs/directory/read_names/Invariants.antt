use Rattle.std.proofs.Common.{◌≡◌, ◌-◌, ◌≤◌, ◌++◌, length, IsTrue, filter, Some, All}
use Rattle.path_order.specs.NameList.{Listed}
use Rattle.tree_scan.specs.Admitted.{fits_in}
use Rattle.tree_scan.proofs.directory.read_names.Given as goal

abbrev pub invariant-listing : goal.invariant-listing
invariant-listing g l = record {
  goes_on : IsTrue (g.T.Tree.is_listing l.tree);
  within : l.given ≤ l.limit;
  few : length l.names ≤ l.given;
  told : (listed : Listed) → g.T.Tree.rest l.fn.tree ≡ Some listed →
      (front rest : Listed) × (g.T.Tree.rest l.tree ≡ Some rest) × (listed ≡ front ++ rest) × (length front ≡ l.given) × (l.names ≡ filter (λ e. fits_in l.fn.path e.0) front);
  fits : All (λ e. IsTrue (fits_in l.fn.path e.0)) l.names;
  openings : g.T.Tree.openings l.tree ≡ g.T.Tree.openings l.fn.tree;
  stats : g.T.Tree.stats l.tree ≡ g.T.Tree.stats l.fn.tree;
  faults : g.T.Tree.faults l.fn.tree ≤ g.T.Tree.faults l.tree;
  kept : g.T.Tree.kept l.fn.tree l.tree;
}

abbrev pub decreases-listing : goal.decreases-listing
decreases-listing g l = l.limit - l.given
