use Rattle.dir_reuse.proofs.ScanRecords.{scan_front, scan_paths, scan_preamble}
use Rattle.dir_reuse.proofs.laws.scan_is_read_back.Goals as goal

pub returns : goal.returns
returns c = record {
  items = λ dirs plan now whole. scan_front dirs plan now whole;
  preamble = λ dirs plan now whole. scan_preamble dirs plan now whole;
  paths = λ dirs plan now whole. scan_paths dirs plan now whole;
}
