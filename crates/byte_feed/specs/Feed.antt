-- The bytes that a feed still has to give, and what a call takes of them.
use Rattle.std.specs.Prelude.{◌≡◌, ℕ, ◌+◌, ◌-◌, ◌≤◌, Bool, true, false, List, [], ◌++◌, length, take, drop, Option, Some, None, nat_le, if◌then◌else◌, ⊤}
use Rattle.std.specs.Io.KnownBytes.{IsAtEnd}
use Rattle.loc_outside.specs.Causes.{raised}
use Rattle.byte_feed.specs.Front.{limit, Window}

-- how many bytes were handed out, those that are held, and whether the source has ended
pub record FeedState : Type 0 where
  pub offset : ℕ
  pub held : List ℕ
  pub ended : Bool

-- a feed that was given nothing yet, whose first byte has this offset
abbrev pub empty_at : ℕ → FeedState
empty_at offset = record { offset = offset; held = []; ended = false }

-- the file from here on: the bytes held, and those left in the source unless it has ended for this feed
abbrev pub file : FeedState → List ℕ → List ℕ
file f left = if f.ended then f.held else f.held ++ left

-- the file below the limit
abbrev pub window : FeedState → List ℕ → Window
window f left = record { bytes = take (limit - f.offset) (file f left); more = nat_le limit (f.offset + length (file f left)) }

-- the file as far as the source had given it when n bytes were left in it
abbrev pub so_far : FeedState → List ℕ → ℕ → Window
so_far f left n = record { bytes = take (limit - f.offset) (take (length (file f left) - n) (file f left)); more = true }

-- This text was taken off the file.
pub record Took (f : FeedState) (left : List ℕ) (f' : FeedState) (left' : List ℕ) (text : List ℕ) : Type 0 where
  pub bytes : file f left ≡ text ++ file f' left'
  pub offset : f'.offset ≡ f.offset + length text
  pub fits : length text ≤ limit - f.offset
  pub goes_on : f'.ended ≡ false → (f.ended ≡ false) × (length left' ≤ length left)

-- the same, where the source tells its bytes
abbrev pub TookKnown : FeedState → Option (List ℕ) → FeedState → Option (List ℕ) → List ℕ → Type 0
TookKnown f None f' left' text = ⊤
TookKnown f (Some l) f' None text = ⊥
TookKnown f (Some l) f' (Some l') text = Took f l f' l' text

-- ---- what is drawn from the source

-- how far the bytes reach that were drawn from the source
abbrev pub reach : FeedState → ℕ
reach f = f.offset + length f.held

-- so many bytes were taken off those left, where they are known
abbrev pub LeftAfter : ℕ → Option (List ℕ) → Option (List ℕ) → Type 0
LeftAfter n None left' = ⊤
LeftAfter n (Some l) None = ⊥
LeftAfter n (Some l) (Some l') = (n ≤ length l) × (l' ≡ drop n l)

-- no byte is left now, where those left are known
abbrev pub NoneLeft : Option (List ℕ) → Option (List ℕ) → Type 0
NoneLeft None left' = ⊤
NoneLeft (Some l) left' = IsAtEnd left'

-- The source gave just the bytes that the feed came to hold, and its count of bytes given rose by their number. From a
-- source that has ended for the feed nothing is drawn, and it ends for the feed only where no byte is left.
pub record Draws (f f' : FeedState) (given given' : ℕ) (left left' : Option (List ℕ)) : Type 0 where
  pub forth : reach f ≤ reach f'
  pub shut : f.ended ≡ true → (f'.ended ≡ true) × (reach f' ≡ reach f)
  pub count : given' ≡ raised given (reach f' - reach f)
  pub rest : LeftAfter (reach f' - reach f) left left'
  pub ends : f.ended ≡ false → f'.ended ≡ true → NoneLeft left left'

-- So many bytes were taken off the front of those left, and the count of bytes given rose by their number.
pub record Takes (most given given' : ℕ) (left left' : Option (List ℕ)) : Type 0 where
  pub taken : ℕ
  pub fits : taken ≤ most
  pub count : given' ≡ raised given taken
  pub rest : LeftAfter taken left left'

-- These are all bytes that may still be read: the source has ended, or they go up to the limit.
pub record IsAllAhead (f : FeedState) (n : ℕ) : Type 0 where
  pub held : length f.held ≡ n
  pub last : f.ended ≡ false → f.offset + n ≡ limit
