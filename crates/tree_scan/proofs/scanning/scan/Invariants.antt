use Rattle.std.proofs.Common.{◌≡◌, ◌≤◌, ◌-◌, ◌+◌, ◌*◌, length, Some, None, IsTrue, false, if◌then◌else◌}
use Rattle.std.specs.FinMap.{get}
use Rattle.loc_outside.specs.Trees.{Dirs}
use Rattle.tree_scan.specs.Plans.{plan_of}
use Rattle.tree_scan.specs.Records.{Honest, answers_all, known}
use Rattle.tree_scan.specs.Walks.{Counted, standing}
use Rattle.tree_scan.proofs.Asking.{Fewer, Keeps, Low}
use Rattle.tree_scan.proofs.Loop.{Split, Stands}
use Rattle.tree_scan.proofs.Past.{Visited}
use Rattle.tree_scan.proofs.Lists.{Rises}
use Rattle.tree_scan.proofs.Sorted.{Apart}
use Rattle.tree_scan.proofs.scanning.scan.Given as goal

abbrev pub invariant-walk : goal.invariant-walk
invariant-walk g l = record {
  told : (dirs : Dirs) → g.T.Tree.dirs l.fn.tree ≡ Some dirs → Honest (g.V.Voucher.records l.fn.voucher) dirs (plan_of l.fn.rules) →
      Split dirs (plan_of l.fn.rules).pruned (plan_of l.fn.rules).root l.progress.pending
      (Stands (plan_of l.fn.rules) l.fn.now
      (record { taken = g.D.Sink.taken l.fn.sink; echoed = g.P.Sink.taken l.fn.echo; stats = g.T.Tree.stats l.fn.tree + (if g.T.Tree.priced l.fn.tree l.fn.rules.root then 1 else 0); openings = g.T.Tree.openings l.fn.tree; records = known (g.V.Voucher.records l.fn.voucher); priced = g.T.Tree.priced l.fn.tree; limits = l.fn.limits })
      (record { standing = standing (g.D.Sink.taken l.sink) (g.P.Sink.taken l.echo) l.progress; stats = g.T.Tree.stats l.tree; openings = g.T.Tree.openings l.tree; whole = answers_all (g.V.Voucher.records l.fn.voucher) (g.V.Voucher.ordered l.fn.voucher) (g.V.Voucher.unbroken l.voucher) }));
  there : (dirs : Dirs) → g.T.Tree.dirs l.fn.tree ≡ Some dirs → get dirs l.fn.rules.root ≡ None → ⊥;
  visited : (dirs : Dirs) → g.T.Tree.dirs l.fn.tree ≡ Some dirs → Visited dirs l.progress.pending l.progress.tried;
  order : Rises Apart l.progress.pending;
  low : Low l.progress.pending;
  keeps : Keeps (known (g.V.Voucher.records l.fn.voucher)) (known (g.V.Voucher.records l.voucher)) (answers_all (g.V.Voucher.records l.fn.voucher) (g.V.Voucher.ordered l.fn.voucher) (g.V.Voucher.unbroken l.voucher)) l.progress.pending;
  fewer : Fewer (g.V.Voucher.records l.fn.voucher) (g.V.Voucher.records l.voucher);
  ordered : IsTrue (g.V.Voucher.ordered l.fn.voucher) → IsTrue (g.V.Voucher.ordered l.voucher);
  sound : IsTrue (g.V.Voucher.sound l.voucher);
  tried : l.progress.tried ≤ l.limits.directories;
  counted : Counted l.progress;
  openings : g.T.Tree.openings l.tree ≤ g.T.Tree.openings l.fn.tree + l.progress.tried;
  quiet : (plan_of l.fn.rules).verbose ≡ false → l.echo ≡ l.fn.echo;
  faults : g.T.Tree.faults l.fn.tree ≤ g.T.Tree.faults l.tree;
  kept : g.T.Tree.kept l.fn.tree l.tree;
  voucher_kept : g.V.Voucher.kept l.fn.voucher l.voucher;
  sink_faults : g.D.Sink.faults l.fn.sink ≤ g.D.Sink.faults l.sink;
  sink_kept : g.D.Sink.kept l.fn.sink l.sink;
  echo_faults : g.P.Sink.faults l.fn.echo ≤ g.P.Sink.faults l.echo;
  echo_kept : g.P.Sink.kept l.fn.echo l.echo;
}

abbrev pub decreases-walk : goal.decreases-walk
decreases-walk g l = (l.limits.directories - l.progress.tried) * 16777216 + length l.progress.pending
