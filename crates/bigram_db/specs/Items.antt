-- The items of a bigram database, as BSD's locate has them, in the order of their bytes: a table of 128 pairs, and then
-- an entry for each path. An entry tells how many bytes its path shares with the path before, by the change of that
-- number against the entry before, and then the rest of the path in units. It goes on to the next byte that is at most
-- 30 and no part of a word or a unit, or to the end of the file.
use Rattle.std.specs.Prelude.{◌≡◌, ℕ, zero, suc, ◌+◌, ◌-◌, ◌<◌, ◌≤◌, ℤ, pos, negsuc, ◌+ℤ◌, ◌-ℤ◌, Bool, true, false, List, [], ◌∷◌, ◌++◌, length, take, drop, Option, Some, None, is_some, unwrap_or, Result, Ok, Err, nat_lt, nat_le, ◌==◌, if◌then◌else◌, All}
use Rattle.std.specs.List.{flat_map}
use Rattle.std.specs.Int.{w32, cast_signed, from_le_bytes, from_be_bytes}
use Rattle.byte_feed.specs.Paths.{before_base}
use Rattle.byte_feed.specs.declared.damage.DamageCause.TheVariants.{LongPath, EmptyPath, BadCount, NoCount, EmptyPair, BadWord, ZeroChar}
use Rattle.byte_feed.specs.declared.damage.Stop.{Stop}
use Rattle.byte_feed.specs.declared.damage.Stop.TheVariants.{NotADatabase, Broken}
use Rattle.byte_feed.specs.Field.{Reads, ◌>>=◌, byte_at, bytes_at, demand, max_path}
use Rattle.byte_feed.specs.Front.{Format}
use Rattle.bigram_db.specs.Pairs.{is_plain, is_table, is_bigram, pair_at, is_used}

-- ---- what an item holds

-- A count is a byte below 30, or the byte 30 and a word of four bytes behind it.
pub data Count : Type 0 where
  Short : (byte : ℕ) → Count
  Word : (bytes : List ℕ) → Count

-- a unit of a path: a byte that stands for itself, a byte behind 31, or a pair by its number
pub data TextUnit : Type 0 where
  Plain : (byte : ℕ) → TextUnit
  Escaped : (byte : ℕ) → TextUnit
  Paired : (number : ℕ) → TextUnit

-- What a file is made of: the table of pairs, and for each path a count and the units of its text.
pub data Item : Type 0 where
  TableItem : (table : List ℕ) → Item
  PathItem : Count → List TextUnit → Item

-- ---- how an item is spelled

abbrev pub spell_count : Count → List ℕ
spell_count (Short byte) = byte ∷ []
spell_count (Word bytes) = 30 ∷ bytes

abbrev pub spell_unit : TextUnit → List ℕ
spell_unit (Plain byte) = byte ∷ []
spell_unit (Escaped byte) = 31 ∷ byte ∷ []
spell_unit (Paired number) = (number + 128) ∷ []

abbrev pub spell_units : List TextUnit → List ℕ
spell_units units = flat_map spell_unit units

abbrev pub spell : Item → List ℕ
spell (TableItem table) = table
spell (PathItem count units) = spell_count count ++ spell_units units

-- ---- what it says

-- from -4,096 to 4,110, as the value of a word must lie
abbrev pub is_in_range : ℤ → Bool
is_in_range (pos n) = nat_le n 4110
is_in_range (negsuc n) = nat_lt n 4096

-- A word is a signed number of four bytes: little endian where that is in range, else big endian where that is.
unfoldable pub word_value : List ℕ → Option ℤ
word_value bytes =
    let little = cast_signed w32 (from_le_bytes w32 bytes) in
    let big = cast_signed w32 (from_be_bytes w32 bytes) in
    if is_in_range little then Some little else
    if is_in_range big then Some big else
    None

-- The value of a count. A word that is out of range has none and is no count, so its 0 is never asked for.
abbrev pub value_of : Count → ℤ
value_of (Short byte) = pos byte
value_of (Word bytes) = unwrap_or (word_value bytes) (pos 0)

-- by how many bytes the shared length changes
abbrev pub amount : Count → ℤ
amount count = value_of count -ℤ pos 14

-- the bytes that a unit stands for
abbrev pub unit_bytes : List ℕ → TextUnit → List ℕ
unit_bytes table (Plain byte) = byte ∷ []
unit_bytes table (Escaped byte) = byte ∷ []
unit_bytes table (Paired number) = let pair = pair_at table number in pair.0 ∷ pair.1 ∷ []

abbrev pub text_of : List ℕ → List TextUnit → List ℕ
text_of table units = flat_map (unit_bytes table) units

-- ---- which items may come

abbrev pub IsCount : Count → Type 0
IsCount (Short byte) = byte < 30
IsCount (Word bytes) = (length bytes ≡ 4) × (is_some (word_value bytes) ≡ true)

-- No unit stands for a zero byte.
abbrev pub IsUnit : List ℕ → TextUnit → Type 0
IsUnit table (Plain byte) = is_plain byte ≡ true
IsUnit table (Escaped byte) = 0 < byte
IsUnit table (Paired number) = is_used (pair_at table number) ≡ true

-- An entry ends before these bytes: before a count, or at the end of the file.
abbrev pub ends : Bool → List ℕ → Bool
ends last [] = last
ends last (b ∷ bytes) = nat_le b 30

-- What the items so far leave: nothing was read; or the table, the path before, and how many bytes it shared with the
-- one before it. The table counts as the empty path.
pub data State : Type 0 where
  AtStart : State
  After : (table path : List ℕ) → (shared : ℕ) → State

-- The entry of a path that shares so many bytes with the path before, which has as many. After a path that keeps this,
-- it has from 1 to 4,096 bytes, none of them zero.
pub record IsEntry (table path : List ℕ) (old : ℕ) (count : Count) (units : List TextUnit) (shared : ℕ) : Type 0 where
  pub is_count : IsCount count
  pub leads : pos old +ℤ amount count ≡ pos shared
  pub within : shared ≤ length path
  pub each : All (IsUnit table) units
  pub fits : length (text_of table units) ≤ max_path - shared
  pub some : 0 < shared + length (text_of table units)

-- an integer as a number; one below zero is none, and with its 0 no item is allowed
abbrev pub at_least_zero : ℤ → ℕ
at_least_zero (pos n) = n
at_least_zero (negsuc n) = 0

-- how many bytes are shared after a change
abbrev pub shared_by : ℕ → Count → ℕ
shared_by old count = at_least_zero (pos old +ℤ amount count)

-- Which item may come next, and before which bytes: the table first and once, then paths whose text ends there.
abbrev pub allowed : State → Item → Bool → List ℕ → Type 0
allowed AtStart (TableItem table) last rest = is_table table ≡ true
allowed (After table path old) (PathItem count units) last rest = IsEntry table path old count units (shared_by old count) × (ends last rest ≡ true)
allowed s i last rest = ⊥

-- the first bytes of the path before, and the rest
abbrev pub path_with : List ℕ → ℕ → List ℕ → List ℕ
path_with path shared rest = take shared path ++ rest

-- What the items leave with one more. It is asked for an item that is allowed there alone, and says nothing of others.
abbrev pub after : State → Item → State
after s (TableItem table) = After table [] 0
after AtStart (PathItem count units) = AtStart
after (After table path old) (PathItem count units) = After table (path_with path (shared_by old count) (text_of table units)) (shared_by old count)

-- The file may end before any entry.
abbrev pub may_end : State → Bool
may_end AtStart = false
may_end (After table path shared) = true

-- ---- reading an item

-- the table, which shows that the file is a bigram database
unfoldable pub table_at : Reads (List ℕ)
table_at bytes = if is_bigram bytes then Ok (take 256 bytes, drop 256 bytes) else Err NotADatabase

abbrev pub word_at : Reads Count
word_at bytes = do
  word ← bytes_at 4 bytes
  good ← demand (is_some (word_value word.0)) BadWord
  Ok (Word word.0, word.1)

-- the count whose spelling begins with this byte
abbrev pub count_behind : ℕ → Reads Count
count_behind first bytes = if first == 30 then word_at bytes else Ok (Short first, bytes)

unfoldable pub count_at : Reads Count
count_at bytes = do
  first ← byte_at bytes
  good ← demand (nat_le first.0 30) NoCount
  count_behind first.0 first.1

-- The shared length lies from 0 to the length of the path before.
abbrev pub shared_within : ℕ → ℤ → Result ℕ Stop
shared_within len (pos n) = if nat_le n len then Ok n else Err (Broken BadCount)
shared_within len (negsuc n) = Err (Broken BadCount)

abbrev pub escaped_at : Reads TextUnit
escaped_at bytes = do
  byte ← byte_at bytes
  some ← demand (nat_lt 0 byte.0) ZeroChar
  Ok (Escaped byte.0, byte.1)

abbrev pub paired_at : List ℕ → ℕ → Reads TextUnit
paired_at table number bytes = do
  used ← demand (is_used (pair_at table number)) EmptyPair
  Ok (Paired number, bytes)

-- the unit whose spelling begins with this byte
abbrev pub unit_behind : List ℕ → ℕ → Reads TextUnit
unit_behind table first bytes =
    if first == 31 then escaped_at bytes else
    if nat_lt first 128 then Ok (Plain first, bytes) else
    paired_at table (first - 128) bytes

-- A unit must be one before it can be too long.
unfoldable pub unit_fitting : List ℕ → ℕ → ℕ → Reads TextUnit
unit_fitting table room first bytes = do
  unit ← unit_behind table first bytes
  fits ← demand (nat_le (length (unit_bytes table unit.0)) room) LongPath
  Ok unit

abbrev pub unit_at : List ℕ → ℕ → Reads TextUnit
unit_at table room bytes = do
  first ← byte_at bytes
  unit_fitting table room first.0 first.1

-- units up to the end of the entry, at most so many
unfoldable pub units_within : ℕ → Bool → List ℕ → ℕ → Reads (List TextUnit)
units_within zero last table room bytes = Ok ([], bytes)
units_within (suc n) last table room bytes = if ends last bytes then Ok ([], bytes) else (do
  unit ← unit_at table room bytes
  units ← units_within n last table (room - length (unit_bytes table unit.0)) unit.1
  Ok (unit.0 ∷ units.0, units.1))

-- Each unit takes a byte at least, so there are no more units than bytes.
unfoldable pub units_at : Bool → List ℕ → ℕ → Reads (List TextUnit)
units_at last table room bytes = units_within (suc (length bytes)) last table room bytes

-- the entry after this path, which shared so many bytes
unfoldable pub entry_at : Bool → List ℕ → List ℕ → ℕ → Reads Item
entry_at last table path old bytes = do
  count ← count_at bytes
  shared ← shared_within (length path) (pos old +ℤ amount count.0)
  units ← units_at last table (max_path - shared) count.1
  some ← demand (nat_lt 0 (shared + length (text_of table units.0))) EmptyPath
  Ok (PathItem count.0 units.0, units.1)

abbrev pub item_at : Bool → State → Reads Item
item_at last AtStart bytes = do
  table ← table_at bytes
  Ok (TableItem table.0, table.1)
item_at last (After table path old) bytes = entry_at last table path old bytes

-- ---- what an item gives

-- the path that an item gives, and the number of its bytes before its base name
abbrev pub path_of : State → Item → Option (List ℕ × ℕ)
path_of (After table path old) (PathItem count units) =
    let text = path_with path (shared_by old count) (text_of table units) in
    Some (text, before_base text)
path_of s i = None

-- No item is a directory's head, and paths are shown to all.
abbrev pub bigram : Format
bigram = record {
  State = State;
  Item = Item;
  begin = AtStart;
  allowed = allowed;
  after = after;
  spell = spell;
  path_of = path_of;
  head_of = λ i. 0;
  gate_of = λ i. false;
  may_end = may_end;
  item_at = item_at;
}
