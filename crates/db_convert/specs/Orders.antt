-- The order in which a database of mlocate has its paths, and where a directory is among them.
use Rattle.std.specs.Prelude.{◌≡◌, ℕ, ◌+◌, ◌<◌, ◌-◌, Bool, true, false, List, [], length, map, All, slice_index_or}
use Rattle.std.specs.List.{list_any}
use Rattle.std.specs.Ordering.{is_lt}
use Rattle.path_order.specs.Order.{path_cmp}
use Rattle.db_convert.specs.Blocks.{Entry, entry_of, entry_cmp, entries_of}

-- the path at a place as an entry
abbrev pub entry_at : List (List ℕ) → ℕ → Entry
entry_at paths place = entry_of (slice_index_or paths place [])

-- the same places, in whatever order and however often
abbrev pub HasSame : List ℕ → List ℕ → Type 0
HasSame places others = (holds : ℕ → Bool) → list_any holds places ≡ list_any holds others

-- Of the first so many places each has an entry below that of the next.
abbrev pub Rises : List (List ℕ) → List ℕ → ℕ → Type 0
Rises paths places count = (k : ℕ) → k + 1 < count → is_lt (entry_cmp (entry_at paths (slice_index_or places k 0)) (entry_at paths (slice_index_or places (k + 1) 0))) ≡ true

-- These are the places of the paths by their entries in order, each entry once.
pub record IsOrder (paths : List (List ℕ)) (places : List ℕ) : Type 0 where
  pub within : All (λ place. place < length paths) places
  pub ordered : map (entry_at paths) places ≡ entries_of paths

-- whether the directory of the entry at this place of the order comes before another
abbrev pub is_before : List (List ℕ) → List ℕ → List ℕ → ℕ → Bool
is_before paths places dir at = is_lt (path_cmp (entry_at paths (slice_index_or places at 0)).0 dir)

-- All up to this place of the order come before the directory.
abbrev pub IsPast : List (List ℕ) → List ℕ → List ℕ → ℕ → Type 0
IsPast paths places dir at = 0 < at → is_before paths places dir (at - 1) ≡ true

-- None from this place of the order on comes before the directory.
abbrev pub IsAhead : List (List ℕ) → List ℕ → List ℕ → ℕ → Type 0
IsAhead paths places dir at = at < length places → is_before paths places dir at ≡ false
