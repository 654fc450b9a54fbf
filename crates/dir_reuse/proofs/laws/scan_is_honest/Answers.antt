use Rattle.dir_reuse.proofs.ScanHonest.{scan_honest}
use Rattle.dir_reuse.proofs.laws.scan_is_honest.Goals as goal

pub returns : goal.returns
returns c = λ dirs plan now planned. scan_honest dirs plan now planned
