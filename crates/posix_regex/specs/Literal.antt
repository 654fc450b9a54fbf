-- The bytes that every text must hold in which the items come to their end.
use Rattle.std.specs.Prelude.{◌≡◌, ◌↔◌, ℕ, ◌+◌, ◌<◌, ◌≤◌, max, List, length, slice_get, slice_index, Contains, Option, Some, None, []}
use Rattle.memchr.specs.Find.{OccursAt}
use Rattle.posix_regex.specs.Moves.{ReachesEnd}
use Rattle.posix_regex.specs.Program.{Item, Takes, AtStart, AtEnd, Fork, Back, Skip}

-- how many places further an item leads at most
abbrev pub reach : Item → ℕ
reach (Takes bytes) = 1
reach AtStart = 1
reach AtEnd = 1
reach (Fork further) = max 1 further
reach (Back before) = 1
reach (Skip further) = further

abbrev pub reach_at : Option Item → ℕ
reach_at None = 0
reach_at (Some item) = reach item

-- no item before the place leads past it
abbrev pub IsGate : List Item → ℕ → Type 0
IsGate items place = (s : ℕ) → s < place → s + reach_at (slice_get items s) ≤ place

-- the item takes this byte and no other
abbrev pub TakesOnly : Option Item → ℕ → Type 0
TakesOnly (Some (Takes bytes)) byte = (other : ℕ) → (Contains bytes other ↔ (other ≡ byte))
TakesOnly (Some AtStart) byte = ⊥
TakesOnly (Some AtEnd) byte = ⊥
TakesOnly (Some (Fork further)) byte = ⊥
TakesOnly (Some (Back before)) byte = ⊥
TakesOnly (Some (Skip further)) byte = ⊥
TakesOnly None byte = ⊥

-- the items from a place on take exactly these bytes in turn
abbrev pub TakeInTurn : List Item → ℕ → List ℕ → Type 0
TakeInTurn items place bytes = (k : ℕ) → k < length bytes → TakesOnly (slice_get items (place + k)) (slice_index bytes k)

-- every way to the end comes through the place, and from there on the items take exactly these bytes in turn
pub record IsStretch (items : List Item) (place : ℕ) (bytes : List ℕ) : Type 0 where
  pub gate : IsGate items place
  pub in_turn : TakeInTurn items place bytes

-- no bytes of another stretch are longer
pub record IsLiteral (items : List Item) (bytes : List ℕ) : Type 0 where
  pub place : ℕ
  pub stretch : IsStretch items place bytes
  pub longest : (other : ℕ) (more : List ℕ) → IsStretch items other more → length more ≤ length bytes

-- the bytes that a finder has, none where there is no finder
abbrev pub literal_of : Option (List ℕ) → List ℕ
literal_of None = []
literal_of (Some bytes) = bytes

-- the bytes stand somewhere in the text
abbrev pub Occurs : List ℕ → List ℕ → Type 0
Occurs text bytes = (place : ℕ) × OccursAt text bytes place

-- no text without the bytes lets the items come to their end
abbrev pub AreNeeded : List Item → List ℕ → Type 0
AreNeeded items bytes = (text : List ℕ) → ReachesEnd items text → Occurs text bytes

-- what is kept of an expression
pub record Compiled : Type 0 where
  pub items : List Item
  -- bytes that every text has in which the expression is found
  pub literal : List ℕ
  -- the bytes with which the expression can begin, where it takes one
  pub first : Option (List ℕ)
