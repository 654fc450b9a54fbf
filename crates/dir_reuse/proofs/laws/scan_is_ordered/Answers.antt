use Rattle.dir_reuse.proofs.ScanOrder.{scan_ordered}
use Rattle.dir_reuse.proofs.laws.scan_is_ordered.Goals as goal

pub returns : goal.returns
returns c = λ dirs plan now planned. scan_ordered dirs plan now planned
