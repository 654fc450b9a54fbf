use Rattle.std.proofs.Common.{◌-◌, length}
use Rattle.posix_regex.proofs.Stretches.{Longest}
use Rattle.posix_regex.proofs.literal.longest.Given as goal

abbrev pub invariant-loop-at : goal.invariant-loop-at
invariant-loop-at l = Longest l.states l.best l.most l.edge l.at

abbrev pub decreases-loop-at : goal.decreases-loop-at
decreases-loop-at l = length l.states - l.at
