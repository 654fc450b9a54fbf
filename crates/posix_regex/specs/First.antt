-- The bytes with which items can begin.
use Rattle.std.specs.Prelude.{◌↔◌, ℕ, ◌<◌, List, [], length, slice_get, slice_index, Contains, Option, Some, None, ⊤}
use Rattle.byte_class.specs.declared.byte_set.ByteSet.{ByteSet}
use Rattle.byte_class.specs.ByteSet.{has, members}
use Rattle.posix_regex.specs.Program.{Item, Takes, AtStart, AtEnd, Fork, Back, Skip}
use Rattle.posix_regex.specs.Moves.{Reached, ReachesEnd}

-- the item takes this byte
abbrev pub CanTake : Option Item → ℕ → Type 0
CanTake None byte = ⊥
CanTake (Some (Takes bytes)) byte = Contains bytes byte
CanTake (Some AtStart) byte = ⊥
CanTake (Some AtEnd) byte = ⊥
CanTake (Some (Fork further)) byte = ⊥
CanTake (Some (Back before)) byte = ⊥
CanTake (Some (Skip further)) byte = ⊥

-- an item that is reached in the empty text takes this byte
abbrev pub CanBegin : List Item → ℕ → Type 0
CanBegin items byte = (s : ℕ) × Reached items [] s 0 × CanTake (slice_get items s) byte

-- none where the items come to their end in the empty text; else the bytes with which they can begin
abbrev pub AreFirst : List Item → Option (List ℕ) → Type 0
AreFirst items None = ReachesEnd items []
AreFirst items (Some bytes) =
    (ReachesEnd items [] → ⊥) × ((byte : ℕ) → byte < 256 → (Contains bytes byte ↔ CanBegin items byte))

-- the bytes of a set, if there is one
abbrev pub bytes_of : Option ByteSet → Option (List ℕ)
bytes_of None = None
bytes_of (Some set) = Some (members (has set))

-- items may begin at this place of the text, as far as its byte tells
abbrev pub MayBegin : List ℕ → Option (List ℕ) → ℕ → Type 0
MayBegin text None i = ⊤
MayBegin text (Some bytes) i = (i < length text) × Contains bytes (slice_index text i)

-- there are such bytes, and the text has none of them
abbrev pub LacksAll : List ℕ → Option (List ℕ) → Type 0
LacksAll text None = ⊥
LacksAll text (Some bytes) = (i : ℕ) → i < length text → Contains bytes (slice_index text i) → ⊥
