use Rattle.dir_reuse.proofs.ScanItems.{each_of}
use Rattle.dir_reuse.specs.Scanned.{FitsHead}
use Rattle.tree_scan.specs.Reach.{reached}
use Rattle.update_runs.proofs.StaysHonest.{stays_honest}
use Rattle.update_runs.proofs.laws.scan_stays_honest.Goals as goal

pub returns : goal.returns
returns c = λ before after plan now planned fit agree shown. stays_honest before after plan now planned (each_of (FitsHead plan) (reached before plan.pruned plan.root) fit) agree shown
