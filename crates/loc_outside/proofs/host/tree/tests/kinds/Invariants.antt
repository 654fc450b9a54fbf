use Rattle.std.proofs.Common.{IsTrue}
use Rattle.loc_outside.proofs.host.tree.tests.kinds.Given as goal

abbrev pub invariant-names : goal.invariant-names
invariant-names g l = IsTrue (g.T.Tree.is_listing l.tree)
