use Rattle.std.proofs.Common.{◌+◌, ◌-◌, ◌<◌, ◌≤◌, length, drop}
use Rattle.posix_regex.specs.Bracket.{members_first}
use Rattle.posix_regex.proofs.Members.{Reads}
use Rattle.posix_regex.proofs.bracket.read_members.Given as goal

abbrev pub invariant-loop-at : goal.invariant-loop-at
invariant-loop-at l = record {
  within : l.at ≤ length l.text;
  some : 0 < l.at;
  reads : Reads l.set (l.start + l.at) (drop l.at l.text) (members_first l.start l.text);
}

abbrev pub decreases-loop-at : goal.decreases-loop-at
decreases-loop-at l = length l.text - l.at
