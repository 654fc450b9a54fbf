use Rattle.std.proofs.Common.{false, ℕ, List}
use Rattle.byte_feed.specs.Calls.{Shares}
use Rattle.locate_engine.specs.Globs.{in_glob, steps_of}
use Rattle.locate_engine.proofs.KnownPatterns.{Judging}
use Rattle.locate_engine.proofs.Patterns.{Asked}
use Rattle.locate_engine.proofs.next.all_match_next.Given as goal

abbrev pub invariant-loop-at : goal.invariant-loop-at
invariant-loop-at g l = record {
  asked : Asked false (λ glob. in_glob glob l.text) (steps_of l.text) l.globs l.at l.initial.steps l.steps;
  judged : (before : List ℕ) × Shares l.shared before l.text × Judging l.globs l.spots l.at before l.text;
}
