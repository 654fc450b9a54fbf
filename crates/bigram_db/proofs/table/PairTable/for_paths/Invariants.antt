use Rattle.std.proofs.Common.{map, take}
use Rattle.bigram_db.proofs.PathCounting.{CountsPaths}
use Rattle.bigram_db.proofs.table.PairTable.for_paths.Given as goal

abbrev pub invariant-loop-path : goal.invariant-loop-path
invariant-loop-path l = CountsPaths l.counts l.before (take l.path-index (map (λ p. p.now) l.paths))
