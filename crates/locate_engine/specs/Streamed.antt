-- What is done over a stream: an aid to the proofs of a search and of statistics, whose contracts speak of files.
use Rattle.std.specs.Prelude.{◌≡◌, ℕ, ◌^◌, ◌≤◌, Bool, true, false, List, length, Option, Some, None, IfSome, if◌then◌else◌, ⊤}
use Rattle.byte_feed.specs.Front.{Window}
use Rattle.byte_feed.specs.Feed.{FeedState, reach, window, so_far}
use Rattle.byte_feed.specs.Paths.{ToCome}
use Rattle.locate_engine.specs.Passing.{Rule, OneDirectory}
use Rattle.locate_engine.specs.Searched.{EndsWithin, SearchesTo, Stand, is_read_fault}
use Rattle.locate_engine.specs.Statistics.{Counts}
use Rattle.locate_engine.specs.declared.counting.Stats.{Stats}
use Rattle.locate_engine.specs.declared.outcome.Outcome.{Outcome}
use Rattle.locate_engine.specs.declared.outcome.Outcome.TheVariants as outcomes

-- the paths of the whole file, or, where the source failed with n bytes left, of what had come of it
abbrev pub seen_of : (Window → ToCome) → FeedState → List ℕ → ℕ → Outcome → ToCome
seen_of before f left n result = before (if is_read_fault result then so_far f left n else window f left)

-- ---- a search

-- where paths are shown only to those who may list their directories, those of one block have one directory
abbrev pub OneDirectoryLeft : Bool → (Window → ToCome) → FeedState → Option (List ℕ) → Type 0
OneDirectoryLeft gated before f left = gated ≡ true → IfSome left (λ bytes. OneDirectory (before (window f bytes)).paths)

-- What a search did, where the source tells its bytes. A source that fails had not ended for the stream.
abbrev pub SearchesKnown : Rule → (List ℕ → ℕ) → (Window → ToCome) → FeedState → Option (List ℕ) → Option (List ℕ) → Stand → Stand → ℕ → ℕ → Outcome → ℕ → Type 0
SearchesKnown rule bound before f None left' old new steps steps' result far = ⊤
SearchesKnown rule bound before f (Some l) None old new steps steps' result far = ⊥
SearchesKnown rule bound before f (Some l) (Some l') old new steps steps' result far =
    (is_read_fault result ≡ true → f.ended ≡ false) × SearchesTo rule bound (seen_of before f l (length l') result) old new steps steps' result far

abbrev pub EndsWithinKnown : (List ℕ → ℕ) → (Window → ToCome) → FeedState → Option (List ℕ) → ℕ → ℕ → Outcome → Type 0
EndsWithinKnown bound before f left steps steps' result = IfSome left (λ bytes. EndsWithin bound (before (window f bytes)) steps steps' result)

-- the stream can go on
abbrev pub leaves_off : Outcome → Bool
leaves_off outcomes.LimitReached = true
leaves_off outcomes.GateFault = true
leaves_off outcomes.WriteFault = true
leaves_off result = false

-- How far a stream has come where a search of it ended so, and whether it can go on.
pub record StreamAfter (f : FeedState) (live : Bool) (result : Outcome) : Type 0 where
  pub there : result ≡ outcomes.Missing → ⊥
  pub below : reach f ≤ 2 ^ 40
  pub whole : result ≡ outcomes.Whole → f.ended ≡ true
  pub too_large : result ≡ outcomes.TooLarge → reach f ≡ 2 ^ 40
  pub spent : leaves_off result ≡ false → live ≡ false

-- ---- statistics

-- what is counted from here on, where the source tells its bytes
abbrev pub CountsKnown : (Window → ToCome) → FeedState → Option (List ℕ) → Option (List ℕ) → Stats → Outcome → Type 0
CountsKnown before f None left' stats result = ⊤
CountsKnown before f (Some l) None stats result = ⊥
CountsKnown before f (Some l) (Some l') stats result =
    (is_read_fault result ≡ true → f.ended ≡ false) × Counts (seen_of before f l (length l') result) stats result
