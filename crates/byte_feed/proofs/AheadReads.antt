-- What is read ahead by one call after the other.
use Rattle.std.proofs.Common.{ℕ, ◌≤◌, ◌^◌, List, length, Option}
use Rattle.byte_feed.specs.Feed.{FeedState, Draws, reach}
use Rattle.byte_feed.proofs.Draws.{draws_then}
use Rattle.byte_feed.specs.Calls.{ReadsAhead}

pub ahead_then : (f f' f'' : FeedState) (g g' g'' : ℕ) (l l' l'' : Option (List ℕ)) → Draws f f' g g' l l' → Draws f' f'' g' g'' l' l''
    → length f''.held ≤ 4096 → reach f'' ≤ 2 ^ 40 → ReadsAhead f f'' g g'' l l''
ahead_then f f' f'' g g' g'' l l' l'' first second few fits = record {
  drawn = draws_then f f' f'' g g' g'' l l' l'' first second;
  held = few;
  bound = fits;
}
