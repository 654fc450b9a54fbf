use Rattle.std.proofs.Common.{◌≡◌, ◌==◌, not, filter, slice_index}
use Rattle.std.specs.List.{range_with_len}
use Rattle.posix_regex.specs.Leaving.{few}
use Rattle.posix_regex.proofs.leaving.Leaving.new.Given as goal

abbrev pub invariant-loop-byte : goal.invariant-loop-byte
invariant-loop-byte l = l.leaving ≡ few (filter (λ b. not (slice_index l.next b == l.number)) (range_with_len 0 l.byte))
