use Rattle.std.proofs.Common.{◌≡◌, map, take}
use Rattle.glob_match.specs.Pattern.{wanted}
use Rattle.locate_tools.proofs.locate_run.read_patterns.Given as goal

abbrev pub invariant-loop-pattern : goal.invariant-loop-pattern
invariant-loop-pattern l = l.globs ≡ map (λ pattern. wanted pattern.now l.fold) (take l.pattern-index l.patterns)
