-- Why an update ends early.
use Rattle.tree_scan.specs.declared.rules.ScanFault.{ScanFault}
use Rattle.tree_scan.specs.declared.rules.ScanFault.TheVariants as scan
use Rattle.update_runs.specs.declared.outcome.ListFault.{ListFault}
use Rattle.update_runs.specs.declared.outcome.ListFault.TheVariants as list

-- The answer to a scan's fault. No call of the tree fails, and a write to memory fails only if memory runs out.
abbrev pub fault_of : ScanFault → ListFault
fault_of scan.RootMissing = list.RootMissing
fault_of scan.TreeFault = list.OutOfMemory
fault_of scan.WriteFault = list.OutOfMemory
fault_of scan.TooManyNames = list.TooManyNames
fault_of scan.TooManyDirectories = list.TooManyDirectories
fault_of scan.OutOfMemory = list.OutOfMemory

-- the scan's fault of the same name
abbrev pub in_scan : ListFault → ScanFault
in_scan list.RootMissing = scan.RootMissing
in_scan list.TooManyNames = scan.TooManyNames
in_scan list.TooManyDirectories = scan.TooManyDirectories
in_scan list.OutOfMemory = scan.OutOfMemory
