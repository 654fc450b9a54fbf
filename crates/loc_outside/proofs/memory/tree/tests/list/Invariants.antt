use Rattle.std.proofs.Common.{IsTrue}
use Rattle.loc_outside.proofs.memory.tree.tests.list.Given as goal

abbrev pub invariant-names : goal.invariant-names
invariant-names g l = IsTrue (g.T.Tree.is_listing l.tree)
