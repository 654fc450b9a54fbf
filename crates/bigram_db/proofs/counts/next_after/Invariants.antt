use Rattle.std.specs.Prelude.{MatchOption}
use Rattle.bigram_db.specs.Counts.{IsNextIn, IsNoneNext}
use Rattle.bigram_db.proofs.counts.next_after.Given as goal

abbrev pub invariant-all : goal.invariant-all
invariant-all l = MatchOption l.best (IsNoneNext l.numbers l.last l.k) (IsNextIn l.numbers l.last l.k)
