use Rattle.std.proofs.Common.{◌≡◌, ◌∷◌, true, map, take}
use Rattle.glob_match.specs.Item.{Star}
use Rattle.glob_match.specs.Pattern.{literal}
use Rattle.glob_match.proofs.reading.read_plain.Given as goal

abbrev pub invariant-loop-byte : goal.invariant-loop-byte
invariant-loop-byte l = l.read ≡ Star ∷ map (literal true) (take l.byte-index l.pattern)
