-- A fault of the scan is no refusal of the settings.
use Rattle.std.specs.Prelude.{false, IsTrue, IfErr}
use Rattle.std.proofs.Common.{◌≡◌, refl, Result, Ok, Err}
use Rattle.database_update.specs.declared.fault.UpdateFault.{UpdateFault}
use Rattle.database_update.specs.declared.fault.UpdateFault.TheVariants.{BadConf, BadMount, ReadFault, RootMissing, TreeFault, WriteFault, TooManyNames, TooManyDirectories, OutOfMemory}
use Rattle.database_update.specs.Faults.{hides_memory, is_of_scan}

pub scan_hides_none : (fault : UpdateFault) → IsTrue (is_of_scan fault) → hides_memory fault ≡ false
scan_hides_none (BadConf line cause) of_scan = absurd cc
scan_hides_none (BadMount line cause) of_scan = absurd cc
scan_hides_none (ReadFault file) of_scan = refl
scan_hides_none RootMissing of_scan = refl
scan_hides_none TreeFault of_scan = refl
scan_hides_none WriteFault of_scan = refl
scan_hides_none TooManyNames of_scan = refl
scan_hides_none TooManyDirectories of_scan = refl
scan_hides_none OutOfMemory of_scan = refl

pub scan_tells_memory : {T : Type 0} (r : Result T UpdateFault) → IfErr r (λ f. IsTrue (is_of_scan f)) → IfErr r (λ f. hides_memory f ≡ false)
scan_tells_memory (Ok x) told = tt
scan_tells_memory (Err fault) told = scan_hides_none fault told
