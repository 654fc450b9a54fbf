use Rattle.std.proofs.Common.{◌≡◌, ◌≤◌, ◌-◌, length, take}
use Rattle.byte_feed.proofs.prefix.common_prefix.Given as goal

abbrev pub invariant-loop-same : goal.invariant-loop-same
invariant-loop-same l = (l.same ≤ length l.a) × (l.same ≤ length l.b) × (take l.same l.a ≡ take l.same l.b)

abbrev pub decreases-loop-same : goal.decreases-loop-same
decreases-loop-same l = l.len - l.same
