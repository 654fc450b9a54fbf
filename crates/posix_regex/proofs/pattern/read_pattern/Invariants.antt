use Rattle.std.proofs.Common.{◌≡◌, ◌-◌, ◌≤◌, length, drop, true}
use Rattle.posix_regex.specs.Pattern.{Reading, nothing_read, read_from}
use Rattle.posix_regex.specs.Reader.{StandsForAll}
use Rattle.posix_regex.proofs.pattern.read_pattern.Given as goal

abbrev pub invariant-loop-at : goal.invariant-loop-at
invariant-loop-at l = record {
  within : l.at ≤ length l.pattern;
  reads : (read : Reading) × StandsForAll l.reader read × (read_from l.extended l.fold l.at 0 (drop l.at l.pattern) l.begins l.bare read ≡ read_from l.extended l.fold 0 0 l.pattern true true nothing_read);
}

abbrev pub decreases-loop-at : goal.decreases-loop-at
decreases-loop-at l = length l.pattern - l.at
