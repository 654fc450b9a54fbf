use Rattle.std.proofs.Common.{◌≡◌, ◌++◌, ◌-◌}
use Rattle.posix_regex.specs.Program.{copies}
use Rattle.posix_regex.proofs.states.States.append_times.Given as goal

abbrev pub invariant-loop-n : goal.invariant-loop-n
invariant-loop-n l = l.self ++ copies (l.count - l.n) l.other ≡ l.initial.self ++ copies l.count l.other
