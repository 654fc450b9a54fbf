use Rattle.std.proofs.Common.{◌≡◌, ◌++◌, take}
use Rattle.posix_regex.proofs.states.States.append.Given as goal

abbrev pub invariant-loop-n : goal.invariant-loop-n
invariant-loop-n l = l.self ≡ l.initial.self ++ take l.n l.other
