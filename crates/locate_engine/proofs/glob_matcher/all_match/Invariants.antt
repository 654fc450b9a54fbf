use Rattle.std.proofs.Common.{drop, false}
use Rattle.locate_engine.specs.Globs.{in_glob, steps_of}
use Rattle.locate_engine.proofs.Patterns.{Asked}
use Rattle.locate_engine.proofs.glob_matcher.all_match.Given as goal

abbrev pub invariant-loop-at : goal.invariant-loop-at
invariant-loop-at g l = Asked false (λ glob. in_glob glob (drop l.from l.path)) (steps_of (drop l.from l.path)) l.globs l.at l.initial.steps l.steps
