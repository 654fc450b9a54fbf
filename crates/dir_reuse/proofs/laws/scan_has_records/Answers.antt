use Rattle.dir_reuse.proofs.ScanAgain.{scan_unvouched}
use Rattle.dir_reuse.proofs.ScanRecords.{scan_records}
use Rattle.dir_reuse.proofs.laws.scan_has_records.Goals as goal

pub returns : goal.returns
returns c = record {
  records = λ dirs plan now whole few. scan_records dirs plan now whole few;
  unvouched = λ dirs plan now whole few. scan_unvouched dirs plan now whole few;
}
