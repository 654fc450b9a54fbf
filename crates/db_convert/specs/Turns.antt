-- The items of a database of mlocate, entry by entry.
use Rattle.std.specs.Prelude.{ℕ, zero, suc, List, [], ◌∷◌, ◌++◌, Option, Some, None, slice_index_or, if◌then◌else◌}
use Rattle.std.specs.Str.{bytes_eq}
use Rattle.mlocate_db.specs.Items.{Item, HeadItem, EndItem}
use Rattle.db_convert.specs.Blocks.{Entry, entry_item}
use Rattle.db_convert.specs.Orders.{entry_at}

-- the head of a directory, with the zero time
abbrev pub head_item : List ℕ → Item
head_item dir = HeadItem (record { seconds = 0; nanos = 0; device = 0; path = dir })

-- what stands before an entry of a directory: nothing where that is open, else its head, and before it the end of another
-- that is open
abbrev pub opening : Option (List ℕ) → List ℕ → List Item
opening None dir = head_item dir ∷ []
opening (Some opened) dir = if bytes_eq opened dir then [] else EndItem ∷ head_item dir ∷ []

-- the same, and the entry
abbrev pub turn : List (List ℕ) → Option (List ℕ) → Entry → List Item
turn paths opened entry = opening opened entry.0 ++ entry_item paths entry.0 entry.1 ∷ []

-- the end of a directory that is open
abbrev pub closing : Option (List ℕ) → List Item
closing None = []
closing (Some opened) = EndItem ∷ []

-- all items of entries, which come after an open directory, and its end or that of the last
abbrev pub items_from : List (List ℕ) → Option (List ℕ) → List Entry → List Item
items_from paths opened [] = closing opened
items_from paths opened (entry ∷ entries) = turn paths opened entry ++ items_from paths (Some entry.0) entries

-- the directory that is open before this place of the order
abbrev pub open_at : List (List ℕ) → List ℕ → ℕ → Option (List ℕ)
open_at paths places zero = None
open_at paths places (suc before) = Some (entry_at paths (slice_index_or places before 0)).0
