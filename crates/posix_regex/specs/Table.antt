-- A table of sets of states, each a word of bits.
use Rattle.std.specs.Prelude.{◌≡◌, ◌⊎◌, ◌↔◌, ℕ, ◌+◌, ◌<◌, ◌≤◌, ◌==◌, Bool, true, false, List, length, slice_get, slice_index, Contains, Option, Some, None}
use Rattle.std.specs.Int.{bit_at}
use Rattle.byte_class.specs.ByteSet.{members}
use Rattle.posix_regex.specs.declared.row.Row.{Row}
use Rattle.posix_regex.specs.Leaving.{few, elsewhere}
use Rattle.posix_regex.specs.Program.{Item}
use Rattle.posix_regex.specs.Moves.{Leads, Still}

-- whether a state is in a set
unfoldable pub has_state : ℕ → ℕ → Bool
has_state set state = bit_at set state == 1

-- the states of a set
abbrev pub states_of : ℕ → List ℕ
states_of set = members (has_state set)

-- these states are those of a set, up to the last, and the first state, which begins at each place
pub record Begins (last : ℕ) (set from : List ℕ) : Type 0 where
  pub kept : (s : ℕ) → s ≤ last → Contains set s → Contains from s
  pub start : Contains from 0
  pub only : (s : ℕ) → Contains from s → Contains set s ⊎ (s ≡ 0)

-- from these states all of those are reached at the place without a byte, and by one byte the next; the end is not reached
pub record Passes (items : List Item) (text from all next : List ℕ) (at : ℕ) : Type 0 where
  pub kept : (s : ℕ) → Contains from s → Contains all s
  pub sound : (s : ℕ) → Contains all s → Still items text from at s
  pub next_sound : (s : ℕ) → Contains next s → (t : ℕ) × Contains all t × Leads text (slice_get items t) t at s (at + 1)
  pub closed : (s u j : ℕ) → Contains all s → Leads text (slice_get items s) s at u j → u ≤ length items → ((j ≡ at) × Contains all u) ⊎ ((j ≡ at + 1) × Contains next u)
  pub unfinished : Contains all (length items) → ⊥

-- at a place a set leads to the end or, by a byte, to the next set
abbrev pub Stepped : List Item → List ℕ → ℕ → ℕ → Option ℕ → Type 0
Stepped items text at set None = (from : List ℕ) × Begins (length items) (states_of set) from × Still items text from at (length items)
Stepped items text at set (Some next) =
    (from : List ℕ) × (all : List ℕ) × Begins (length items) (states_of set) from × Passes items text from all (states_of next) at

-- the same at each place that has this byte, which is the first or no other is
abbrev pub Follows : List Item → Bool → ℕ → ℕ → Option ℕ → Type 0
Follows items first byte set next =
    (text : List ℕ) → (at : ℕ) → at < length text → slice_index text at ≡ byte → ((first ≡ true) ↔ (at ≡ 0)) → Stepped items text at set next

-- whether a set leads to the end at the last place
abbrev pub Closes : List Item → List ℕ → ℕ → Bool → Type 0
Closes items text set true = Stepped items text (length text) set None
Closes items text set false = (next : ℕ) × Stepped items text (length text) set (Some next)

-- the same in each text, which is empty or not
abbrev pub Ends : List Item → Bool → ℕ → Bool → Type 0
Ends items first set end = (text : List ℕ) → ((first ≡ true) ↔ (length text ≡ 0)) → Closes items text set end

-- what stands in a row for a byte: 255 where the end is reached, else the number of the next set, which is never the first
abbrev pub Entry : List Item → List ℕ → Bool → ℕ → ℕ → ℕ → Type 0
Entry items sets first byte set entry =
    ((entry ≡ 255) × Follows items first byte set None)
    ⊎ ((0 < entry) × (entry < 128) × ((next : ℕ) × (slice_get sets entry ≡ Some next) × Follows items first byte set (Some next)))

-- the row of a set
pub record IsRow (items : List Item) (sets : List ℕ) (number set : ℕ) (row : Row) : Type 0 where
  pub entries : (byte : ℕ) → byte < 256 → Entry items sets (number == 0) byte set (slice_index row.next byte)
  pub ends : Ends items (number == 0) set row.end
  pub leaving : row.leaving ≡ few (elsewhere row.next number)

-- the sets that an earlier list has stand at their numbers
abbrev pub Grown : List ℕ → List ℕ → Type 0
Grown old new = (i set : ℕ) → slice_get old i ≡ Some set → slice_get new i ≡ Some set

-- a row is that of the set with this number
abbrev pub IsMade : List Item → List ℕ → ℕ → Row → Type 0
IsMade items sets number row = (set : ℕ) × (slice_get sets number ≡ Some set) × IsRow items sets number set row

-- so many rows are those of the first sets
abbrev pub AreRows : List Item → List ℕ → List Row → Type 0
AreRows items sets rows =
    (i : ℕ) → (row : Row) → slice_get rows i ≡ Some row → IsMade items sets i row

-- a table has a row for each of some sets, of which the first is empty
abbrev pub IsTable : List Item → List Row → Type 0
IsTable items rows = (sets : List ℕ) × (length sets ≤ length rows) × (slice_get sets 0 ≡ Some 0) × AreRows items sets rows
