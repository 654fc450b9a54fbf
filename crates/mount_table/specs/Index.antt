-- The index of a mount table by mount points.
use Rattle.std.specs.Prelude.{◌≡◌, ℕ, ◌+◌, ◌*◌, ◌-◌, ◌%◌, ◌<◌, Bool, true, false, List, ◌∷◌, ◌++◌, length, bytes_eq, MatchOption, Option, Vec, slice_get, slice_index}
use Rattle.std.specs.HashMap.{HashMap, get_by}
use Rattle.std.specs.List.{list_any, AllByRecursion}
use Rattle.std.specs.Option.{unwrap_or}
use Rattle.path_order.specs.Path.{is_normal}
use Rattle.mount_table.specs.Lookup.{is_at}
use Rattle.mount_table.specs.Row.{MountRow}

-- the place that is kept for a mount point
abbrev pub place_in : {Y S : Type 0} → HashMap (Vec ℕ Y) ℕ S → List ℕ → Option ℕ
place_in index point = get_by (λ key. bytes_eq point key.items) index

-- the row at a place is at a path, and none after it is
pub record IsLastAt (rows : List MountRow) (path : List ℕ) (place : ℕ) : Type 0 where
  pub before : List MountRow
  pub row : MountRow
  pub after : List MountRow
  pub whole : rows ≡ before ++ row ∷ after
  pub here : length before ≡ place
  pub at_path : is_at path row ≡ true
  pub none_after : list_any (is_at path) after ≡ false

-- the index gives the place of the last row at a path, where that is normal, and nothing where no row is at it
abbrev pub Indexes : List MountRow → List ℕ → Option ℕ → Type 0
Indexes rows path place =
    MatchOption place (is_normal path ≡ true → list_any (is_at path) rows ≡ false) (λ k. IsLastAt rows path k × (is_normal path ≡ true))

-- it does so at each path
pub record IsIndex {Y S : Type 0} (rows : List MountRow) (index : HashMap (Vec ℕ Y) ℕ S) : Type 0 where
  pub at_each : (path : List ℕ) → Indexes rows path (place_in index path)

-- the place of a path's mark, by its length and its last byte
unfoldable pub mark_place : List ℕ → ℕ
mark_place path = length path % 64 * 4 + slice_index path (length path - 1) % 4

-- whether a path has a mark
abbrev pub is_marked : List Bool → List ℕ → Bool
is_marked marks path = unwrap_or (slice_get marks (mark_place path)) false

-- no row is at a path without a mark
abbrev pub Marks : List MountRow → List Bool → Type 0
Marks rows marks = (path : List ℕ) → is_marked marks path ≡ false → list_any (is_at path) rows ≡ false

-- whether a mark stands for the second byte of a path
abbrev pub is_top : List Bool → List ℕ → Bool
is_top tops path = unwrap_or (slice_get tops (slice_index path 1)) false

-- a mark stands for the second byte of each mount point that has one
abbrev pub Tops : List MountRow → List Bool → Type 0
Tops rows tops = AllByRecursion (λ row. 1 < length row.point → is_top tops row.point ≡ true) rows
