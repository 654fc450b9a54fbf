-- A file is read from its first byte on.
use Rattle.std.proofs.Common.{◌≡◌, ◌≤◌, ◌+◌, ℕ, List, length, Option, Some, None, Result, IfSome, subst, arith}
use Rattle.byte_feed.specs.Front.{Window, readable}
use Rattle.byte_feed.specs.Feed.{Draws, FeedState, empty_at, window}
use Rattle.byte_feed.specs.Paths.{ToCome}
use Rattle.db_convert.specs.declared.fault.ListFault.{ListFault}
use Rattle.db_convert.specs.Reading.{Answers}
use Rattle.db_convert.proofs.ReadPaths.{file_answers}

-- by a reader that had read nothing
pub stream_answers : {R : Type 0} (left_of : R → Window → ToCome) (feed_of : R → FeedState) (r new : R) → r ≡ new → feed_of new ≡ empty_at 0 → (l : Option (List ℕ)) (answer : Result (List (List ℕ)) ListFault)
    → IfSome l (λ left. Answers (left_of r (window (feed_of r) left)) answer) → IfSome l (λ file. Answers (left_of new (readable file)) answer)
stream_answers {R} left_of feed_of r new is fresh l answer h =
    file_answers (left_of new) (feed_of new) l answer fresh (subst (λ (q : R). IfSome l (λ left. Answers (left_of q (window (feed_of q) left)) answer)) is h)

-- no more was drawn than was left
pub drawn_once : (f f' : FeedState) (g g' : ℕ) (l l' : Option (List ℕ)) → Draws f f' g g' l l' → IfSome l (λ file. g' ≤ g + length file)
drawn_once f f' g g' None l' d = tt
drawn_once f f' g g' (Some file) None d = absurd d.rest
drawn_once f f' g g' (Some file) (Some left) d = let count = d.count in let few = d.rest.0 in omega (arith, count, few)
