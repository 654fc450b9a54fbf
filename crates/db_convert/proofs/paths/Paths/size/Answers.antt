use Rattle.std.proofs.Common.{ℕ, List, length, ap, arith}
use Rattle.std.specs.Prelude.{sum_by}
use Rattle.db_convert.proofs.CutTexts.{size_is}
use Rattle.db_convert.proofs.paths.Paths.size.Goals as goal

pub returns-clause-value : goal.returns-clause-value
returns-clause-value c = omega (arith, c.len.ensures, size_is c.self.inside.bytes.items c.self.inside.ends.items c.self.invariant, ap (λ (l : List (List ℕ)). sum_by length l) c.self.view_is)
