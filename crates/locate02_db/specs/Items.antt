-- The items of a LOCATE02 database, as locatedb(5) has them, in the order of their bytes: a preamble, and then an entry
-- for each path. An entry tells how many bytes its path shares with the path before, by the change of that number
-- against the entry before, and then the rest of the path.
use Rattle.std.specs.Prelude.{◌≡◌, ℕ, ◌+◌, ◌-◌, ◌<◌, ◌≤◌, ℤ, pos, negsuc, ◌+ℤ◌, ◌≤ℤ◌, Bool, true, false, List, [], ◌∷◌, ◌++◌, length, take, Option, Some, None, Result, Ok, Err, nat_lt, nat_le, ◌==◌, if◌then◌else◌}
use Rattle.std.specs.Int.{w8, w16, cast_signed, cast_unsigned}
use Rattle.std.specs.Int.RustNames.{FitsSigned}
use Rattle.byteorder.specs.Endian.{big_bytes}
use Rattle.byte_feed.specs.declared.damage.DamageCause.TheVariants.{BadCount, EmptyPath}
use Rattle.byte_feed.specs.declared.damage.Stop.{Stop}
use Rattle.byte_feed.specs.declared.damage.Stop.TheVariants.{Broken}
use Rattle.byte_feed.specs.Field.{Reads, ◌>>=◌, magic_at, byte_at, number_at, ended_at, demand, IsPlain, ended, max_path}
use Rattle.byte_feed.specs.Front.{Format}
use Rattle.byte_feed.specs.Paths.{before_base}
use Rattle.locate02_db.specs.declared.change.Change.{Change}
use Rattle.locate02_db.specs.declared.change.Change.TheVariants.{Short, Long}

-- ---- what an item holds

-- The rest of the path is what follows the bytes that it shares.
pub data Item : Type 0 where
  PreambleItem : Item
  PathItem : Change → (remainder : List ℕ) → Item

-- ---- how an item is spelled

-- a zero byte, `LOCATE02`, and a zero byte
abbrev pub magic : List ℕ
magic = 0 ∷ 76 ∷ 79 ∷ 67 ∷ 65 ∷ 84 ∷ 69 ∷ 48 ∷ 50 ∷ 0 ∷ []

-- a number in two bytes, big endian
unfoldable pub word : ℕ → List ℕ
word n = big_bytes 2 n

-- In the short form one byte is the change as a signed number. In the long form the byte 128 stands before a signed
-- number of two bytes, big endian.
abbrev pub spell_change : Change → List ℕ
spell_change (Short change) = cast_unsigned w8 change ∷ []
spell_change (Long change) = 128 ∷ word (cast_unsigned w16 change)

abbrev pub spell : Item → List ℕ
spell PreambleItem = magic
spell (PathItem change remainder) = spell_change change ++ ended remainder

-- ---- which items may come

-- The byte 128 is no change in the short form.
abbrev pub IsChange : Change → Type 0
IsChange (Short change) = (negsuc 126 ≤ℤ change) × (change ≤ℤ pos 127)
IsChange (Long change) = FitsSigned w16 change

-- by how many bytes the shared length changes
abbrev pub amount : Change → ℤ
amount (Short change) = change
amount (Long change) = change

-- What the items so far leave: nothing was read; or the path before, and how many bytes it shared with the one before
-- it. The preamble counts as the empty path.
pub data State : Type 0 where
  AtStart : State
  After : (path : List ℕ) → (shared : ℕ) → State

-- An entry whose path shares so many bytes: the path before has as many, and behind a path of at most 4,096 bytes, none
-- of them zero, it gives one with a byte at least that keeps this.
pub record IsEntry (path : List ℕ) (old : ℕ) (change : Change) (remainder : List ℕ) (shared : ℕ) : Type 0 where
  pub fits : IsChange change
  pub leads : pos old +ℤ amount change ≡ pos shared
  pub within : shared ≤ length path
  pub plain : IsPlain (max_path - shared) remainder
  pub some : 0 < shared + length remainder

-- an integer as a number; one below zero is none, and with its 0 no item is allowed
abbrev pub at_least_zero : ℤ → ℕ
at_least_zero (pos n) = n
at_least_zero (negsuc n) = 0

-- how many bytes are shared after a change
abbrev pub shared_by : ℕ → Change → ℕ
shared_by old change = at_least_zero (pos old +ℤ amount change)

-- Which item may come next: the preamble first and once, then paths that keep the rules of an entry.
abbrev pub allowed : State → Item → Type 0
allowed AtStart PreambleItem = Unit {0}
allowed (After path old) (PathItem change remainder) = IsEntry path old change remainder (shared_by old change)
allowed s i = ⊥

-- the first bytes of the path before, and the rest
abbrev pub path_with : List ℕ → ℕ → List ℕ → List ℕ
path_with path shared remainder = take shared path ++ remainder

-- What the items leave with one more. It is asked for an item that is allowed there alone, and says nothing of others.
abbrev pub after : State → Item → State
after AtStart i = After [] 0
after (After path old) PreambleItem = After path old
after (After path old) (PathItem change remainder) = After (path_with path (shared_by old change) remainder) (shared_by old change)

-- The file may end before any entry.
abbrev pub may_end : State → Bool
may_end AtStart = false
may_end (After path shared) = true

-- ---- reading an item, field by field

-- the two bytes of a change in the long form
unfoldable pub long_at : Reads Change
long_at bytes = do
  number ← number_at 2 bytes
  Ok (Long (cast_signed w16 number.0), number.1)

-- the change, from its first byte on
abbrev pub change_from : ℕ → Reads Change
change_from first bytes = if first == 128 then long_at bytes else Ok (Short (cast_signed w8 first), bytes)

-- The shared length lies from 0 to the length of the path before.
abbrev pub shared_within : ℕ → ℤ → Result ℕ Stop
shared_within len (pos n) = if nat_le n len then Ok n else Err (Broken BadCount)
shared_within len (negsuc n) = Err (Broken BadCount)

-- the rest of a path that shares so many bytes
abbrev pub remainder_at : Change → ℕ → Reads Item
remainder_at change shared bytes = do
  remainder ← ended_at (max_path - shared) bytes
  some ← demand (nat_lt 0 (shared + length remainder.0)) EmptyPath
  Ok (PathItem change remainder.0, remainder.1)

-- the entry after a path that shared so many bytes, from its first byte on
unfoldable pub entry_from : List ℕ → ℕ → ℕ → Reads Item
entry_from path old first bytes = do
  change ← change_from first bytes
  shared ← shared_within (length path) (pos old +ℤ amount change.0)
  remainder_at change.0 shared change.1

abbrev pub entry_at : List ℕ → ℕ → Reads Item
entry_at path old bytes = do
  first ← byte_at bytes
  entry_from path old first.0 first.1

abbrev pub item_at : State → Reads Item
item_at AtStart bytes = do
  begun ← magic_at magic bytes
  Ok (PreambleItem, begun.1)
item_at (After path old) bytes = entry_at path old bytes

-- ---- what an item gives

-- the path that an entry gives, and the number of its bytes before its base name
abbrev pub path_of : State → Item → Option (List ℕ × ℕ)
path_of (After path old) (PathItem change remainder) =
    let text = path_with path (shared_by old change) remainder in
    Some (text, before_base text)
path_of s i = None

-- No item is a directory's head, and paths are shown to all.
abbrev pub locate02 : Format
locate02 = record {
  State = State;
  Item = Item;
  begin = AtStart;
  allowed = λ s i last rest. allowed s i;
  after = after;
  spell = spell;
  path_of = path_of;
  head_of = λ i. 0;
  gate_of = λ i. false;
  may_end = may_end;
  item_at = λ last s bytes. item_at s bytes;
}
