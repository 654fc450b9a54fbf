-- What a function read off the bytes that a feed still has to give.
use Rattle.std.specs.Prelude.{◌≡◌, ℕ, ◌≤◌, Bool, true, false, List, ◌++◌, length, Option, Some, None, Result, Ok, Err, ◌==◌, ◌&&◌, if◌then◌else◌, ⊤, ◌↔◌}
use Rattle.byte_feed.specs.declared.damage.DamageCause.TheVariants.{Cut}
use Rattle.byte_feed.specs.declared.damage.Stop.{Stop}
use Rattle.byte_feed.specs.declared.damage.Stop.TheVariants.{Broken}
use Rattle.byte_feed.specs.declared.damage.Break.{Break}
use Rattle.byte_feed.specs.declared.damage.Break.TheVariants.{ReadFault, TooLarge, Stopped}
use Rattle.byte_feed.specs.Front.{limit}
use Rattle.byte_feed.specs.Field.{Reads, bytes_at}
use Rattle.byte_feed.specs.Feed.{FeedState, window, so_far, Took, reach}

-- a byte past the last one is asked for
abbrev pub is_cut : Stop → Bool
is_cut (Broken Cut) = true
is_cut s = false

-- A text was taken, and reading gives this value wherever that text stands.
pub record Gave {Y : Type 0} (read : Reads Y) (y : Y) (f : FeedState) (left : List ℕ) (f' : FeedState) (left' : List ℕ) : Type 0 where
  pub text : List ℕ
  pub took : Took f left f' left' text
  pub gives : (rest : List ℕ) → read (text ++ rest) ≡ Ok (y, rest)

abbrev pub Fails : {A E : Type 0} → Result A E → Type 0
Fails (Ok x) = ⊥
Fails (Err e) = ⊤

-- No value stands in what the source had given when it failed with n bytes left.
pub record Wanting {Y : Type 0} (read : Reads Y) (f : FeedState) (left : List ℕ) (n : ℕ) : Type 0 where
  pub goes_on : f.ended ≡ false
  pub fewer : n ≤ length left
  pub none : Fails (read (so_far f left n).bytes)

-- Why reading broke off. A byte past the last one that may be read is either cut off or past the limit.
abbrev pub Breaks : {Y : Type 0} → Reads Y → FeedState → List ℕ → ℕ → Break → Type 0
Breaks read f left n ReadFault = Wanting read f left n
Breaks read f left n TooLarge = (read (window f left).bytes ≡ Err (Broken Cut)) × ((window f left).more ≡ true)
Breaks read f left n (Stopped s) = (read (window f left).bytes ≡ Err s) × (is_cut s ≡ true → (window f left).more ≡ false)

-- What a function read off the bytes to come is what reading gives, where the source tells its bytes.
unfoldable pub StreamGives : {X Y : Type 0} → (X → Y) → Reads Y → FeedState → Option (List ℕ) → FeedState → Option (List ℕ) → Result X Break → Type 0
StreamGives view read f None f' left' r = ⊤
StreamGives view read f (Some l) f' None r = ⊥
StreamGives view read f (Some l) f' (Some l') (Ok x) = Gave read (view x) f l f' l'
StreamGives view read f (Some l) f' (Some l') (Err b) = Breaks read f l (length l') b

-- Reading broke off at the limit, or past the last byte of a source that has ended.
abbrev pub BreaksAt : {X : Type 0} → FeedState → Result X Break → Type 0
BreaksAt f (Ok x) = ⊤
BreaksAt f (Err ReadFault) = ⊤
BreaksAt f (Err TooLarge) = reach f ≡ limit
BreaksAt f (Err (Stopped s)) = is_cut s ≡ true → f.ended ≡ true

abbrev pub IsFault : {X : Type 0} → Result X Break → Type 0
IsFault (Err ReadFault) = ⊤
IsFault r = ⊥

-- why reading broke off where this place is as far as one could look
abbrev pub broken_at : ℕ → Stop → Break
broken_at end s = if is_cut s && (end == limit) then TooLarge else Stopped s

-- ---- bytes that are skipped or compared

-- So many bytes were taken.
pub record Skips (count : ℕ) (f : FeedState) (left : List ℕ) (f' : FeedState) (left' : List ℕ) : Type 0 where
  pub text : List ℕ
  pub took : Took f left f' left' text
  pub len : length text ≡ count

-- So many bytes were taken, and the answer is whether they are these.
pub record Matches (count : ℕ) (expected : List ℕ) (f : FeedState) (left : List ℕ) (f' : FeedState) (left' : List ℕ) (same : Bool) : Type 0 where
  pub text : List ℕ
  pub took : Took f left f' left' text
  pub len : length text ≡ count
  pub is_same : same ≡ true ↔ text ≡ expected

-- the same, where the source tells its bytes; or why there are not so many
abbrev pub SkipsKnown : ℕ → FeedState → Option (List ℕ) → FeedState → Option (List ℕ) → Result (Unit {0}) Break → Type 0
SkipsKnown count f None f' left' r = ⊤
SkipsKnown count f (Some l) f' None r = ⊥
SkipsKnown count f (Some l) f' (Some l') (Ok x) = Skips count f l f' l'
SkipsKnown count f (Some l) f' (Some l') (Err e) = Breaks (bytes_at count) f l (length l') e

abbrev pub MatchesKnown : ℕ → List ℕ → FeedState → Option (List ℕ) → FeedState → Option (List ℕ) → Result Bool Break → Type 0
MatchesKnown count expected f None f' left' r = ⊤
MatchesKnown count expected f (Some l) f' None r = ⊥
MatchesKnown count expected f (Some l) f' (Some l') (Ok b) = Matches count expected f l f' l' b
MatchesKnown count expected f (Some l) f' (Some l') (Err e) = Breaks (bytes_at count) f l (length l') e
