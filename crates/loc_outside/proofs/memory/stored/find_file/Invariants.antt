use Rattle.std.proofs.Common.{◌≡◌, drop}
use Rattle.loc_outside.proofs.StoredLemmas.{found}
use Rattle.loc_outside.proofs.memory.stored.find_file.Given as goal

abbrev pub invariant-loop-i : goal.invariant-loop-i
invariant-loop-i l = found l.name l.files ≡ found l.name (drop l.i l.files)
