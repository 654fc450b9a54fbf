use Rattle.db_convert.proofs.Refused.{AdmittedTo}
use Rattle.db_convert.proofs.admission.first_refused.Given as goal

abbrev pub invariant-paths : goal.invariant-paths
invariant-paths l = AdmittedTo l.to l.paths l.at
