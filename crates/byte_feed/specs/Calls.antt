-- What a call does to the rest of a file, to its source and to a reader's place.
use Rattle.std.specs.Prelude.{◌≡◌, ℕ, ◌+◌, ◌≤◌, ◌^◌, Bool, false, List, length, take, Option, Some, None, Result, Ok, Err, OnErr, if◌then◌else◌, ⊤, MatchBool}
use Rattle.byte_feed.specs.declared.damage.DbFault.{DbFault}
use Rattle.byte_feed.specs.Front.{Window}
use Rattle.byte_feed.specs.Feed.{FeedState, window, so_far, reach, Draws}
use Rattle.byte_feed.specs.Endings.{Ending, is_read_fault}
use Rattle.byte_feed.specs.Paths.{PathAt, IsPath}

-- Some was given off the front of the rest of the file, and of the rest of each first part of it that had come.
pub record Moved {T : Type 0} (before after : Window → T) (given : T → T) (f : FeedState) (left : List ℕ) (f' : FeedState) (left' : List ℕ) : Type 0 where
  pub whole : before (window f left) ≡ given (after (window f' left'))
  pub goes_on : f'.ended ≡ false → (f.ended ≡ false) × (length left' ≤ length left)
  pub parts : f'.ended ≡ false → (n : ℕ) → n ≤ length left' → before (so_far f left n) ≡ given (after (so_far f' left' n))

abbrev pub MovedKnown : {T : Type 0} → (Window → T) → (Window → T) → (T → T) → FeedState → Option (List ℕ) → FeedState → Option (List ℕ) → Type 0
MovedKnown before after given f None f' left' = ⊤
MovedKnown before after given f (Some l) f' None = ⊥
MovedKnown before after given f (Some l) f' (Some l') = Moved before after given f l f' l'

-- When the source failed with n bytes left, what had come of the file gave nothing more. `bare` is a rest with
-- nothing but an ending.
pub record Broke {T : Type 0} (before : Window → T) (bare : Ending → T) (f : FeedState) (left : List ℕ) (n : ℕ) : Type 0 where
  pub goes_on : f.ended ≡ false
  pub fewer : n ≤ length left
  pub ending : Ending
  pub nothing : before (so_far f left n) ≡ bare ending

-- Nothing is left, and the file ends so; or the source failed.
abbrev pub EndsBy : {T : Type 0} → (Window → T) → (Ending → T) → FeedState → List ℕ → ℕ → Ending → Type 0
EndsBy before bare f left n ending = MatchBool (is_read_fault ending) (Broke before bare f left n) (before (window f left) ≡ bare ending)

abbrev pub EndsKnown : {T : Type 0} → (Window → T) → (Ending → T) → FeedState → Option (List ℕ) → Option (List ℕ) → Ending → Type 0
EndsKnown before bare f None left' ending = ⊤
EndsKnown before bare f (Some l) None ending = ⊥
EndsKnown before bare f (Some l) (Some l') ending = EndsBy before bare f l (length l') ending

-- The first item is whole, has this length and asks so.
abbrev pub PreambleKnown : (Window → Option (ℕ × Bool)) → FeedState → Option (List ℕ) → ℕ → Bool → Type 0
PreambleKnown preamble f None place gated = ⊤
PreambleKnown preamble f (Some l) place gated = preamble (window f l) ≡ Some (place, gated)

-- The first item is not whole in the file, or, where the source failed, in what had come of it.
abbrev pub NoPreamble : (Window → Option (ℕ × Bool)) → FeedState → List ℕ → ℕ → DbFault → Type 0
NoPreamble preamble f left n fault = preamble (if is_read_fault (Err fault) then so_far f left n else window f left) ≡ None

abbrev pub NoPreambleKnown : (Window → Option (ℕ × Bool)) → FeedState → Option (List ℕ) → Option (List ℕ) → DbFault → Type 0
NoPreambleKnown preamble f None left' fault = ⊤
NoPreambleKnown preamble f (Some l) None fault = ⊥
NoPreambleKnown preamble f (Some l) (Some l') fault = NoPreamble preamble f l (length l') fault

-- whether a call found a path
abbrev pub is_found : {E : Type 0} → Result Bool E → Bool
is_found (Ok b) = b
is_found (Err e) = false

-- ---- whatever the source tells

-- Just the bytes that the feed came to hold were drawn from the source. At most 4,096 lie ahead, and none past 2^40.
pub record ReadsAhead (f f' : FeedState) (given given' : ℕ) (left left' : Option (List ℕ)) : Type 0 where
  pub drawn : Draws f f' given given' left left'
  pub held : length f'.held ≤ 4096
  pub bound : reach f' ≤ 2 ^ 40

-- The place is behind the preamble where that was whole, and else where the file begins. No head was read.
pub record PlaceBehind {A E : Type 0} (result : Result A E) (place' heads' : ℕ) : Type 0 where
  pub stays : OnErr result (place' ≡ 0)
  pub bound : place' ≤ 2 ^ 40
  pub heads : heads' ≡ 0

-- The place does not go back. The feed is no more than one item past it, and no more heads than bytes were read.
pub record PlaceMoves (f' : FeedState) (place place' heads' : ℕ) : Type 0 where
  pub forth : place ≤ place'
  pub bound : place' ≤ 2 ^ 40
  pub near : f'.offset ≤ place' + 2 ^ 14
  pub heads : heads' ≤ place'

-- The path has at least n bytes, and its first n are the first n of the path before.
pub record Shares (n : ℕ) (before path : List ℕ) : Type 0 where
  pub within : n ≤ length path
  pub same : take n path ≡ take n before

-- The path has 1 to 4,096 bytes without byte 0, its directory's length is none above its own, and its item was read last.
pub record IsFound (p : PathAt) (place' heads' : ℕ) : Type 0 where
  pub text : IsPath p.text
  pub dir : p.dir_len ≤ length p.text
  pub at : (p.place ≡ place') × (p.heads ≡ heads')
