use Rattle.std.proofs.Common.{◌<◌, length}
use Rattle.glob_match.proofs.needle.rarest.Given as goal

abbrev pub invariant-loop-place : goal.invariant-loop-place
invariant-loop-place l = 0 < length l.bytes → l.best < length l.bytes
