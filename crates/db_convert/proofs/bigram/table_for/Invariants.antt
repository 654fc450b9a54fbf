use Rattle.std.proofs.Common.{take}
use Rattle.bigram_db.proofs.PathCounting.{CountsPaths}
use Rattle.db_convert.proofs.bigram.table_for.Given as goal

abbrev pub invariant-paths : goal.invariant-paths
invariant-paths l = CountsPaths l.counts l.before (take l.at l.paths)
