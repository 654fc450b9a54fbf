-- Where a file was left whose reading broke off.
use Rattle.std.proofs.Common.{ℕ, Err, refl, ap}
use Rattle.byte_feed.specs.declared.damage.DamageCause.{DamageCause}
use Rattle.byte_feed.specs.declared.damage.Stop.TheVariants.{NotADatabase, Broken}
use Rattle.byte_feed.specs.declared.damage.Break.{Break}
use Rattle.byte_feed.specs.declared.damage.Break.TheVariants.{ReadFault, TooLarge, Stopped}
use Rattle.byte_feed.specs.Feed.{FeedState}
use Rattle.byte_feed.specs.Stream.{is_cut, BreaksAt}
use Rattle.byte_feed.specs.Endings.{StopsAt, fault_at}

pub stops_at : (X : Type 0) (f : FeedState) (place : ℕ) (cause : Break) → BreaksAt {X = X} f (Err cause) → StopsAt f place (Err (fault_at place cause))
stops_at X f place ReadFault h = tt
stops_at X f place TooLarge h = h
stops_at X f place (Stopped NotADatabase) h = tt
stops_at X f place (Stopped (Broken c)) h = (refl, λ e. h (ap (λ (d : DamageCause). is_cut (Broken d)) e))
