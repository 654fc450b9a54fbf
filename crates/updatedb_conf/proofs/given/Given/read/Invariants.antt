use Rattle.std.proofs.Common.{◌≡◌, ◌+◌, drop, length}
use Rattle.updatedb_conf.specs.Settings.{given_by, given_in, lines}
use Rattle.updatedb_conf.proofs.given.Given.read.Given as goal

abbrev pub invariant-lines : goal.invariant-lines
invariant-lines l =
    record {
      counted : l.number ≡ length l.yielded;
      rest : given_by (l.number + 1) l.given (drop (length l.yielded) (lines l.text)) ≡ given_in l.text;
    }
