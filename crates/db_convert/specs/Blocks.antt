-- A database of mlocate over a list of paths. Only admitted paths are meant: normal paths below the root.
use Rattle.std.specs.Prelude.{ℕ, false, List, [], ◌∷◌, ◌++◌, map, filter, if◌then◌else◌}
use Rattle.std.specs.declared.cmp.Ordering.{Ordering}
use Rattle.std.specs.Ordering.{nat_cmp, ordering_then}
use Rattle.std.specs.Cmp.Lexicographic.{slice_cmp}
use Rattle.std.specs.FinMap.{from_entries, keys}
use Rattle.std.specs.List.{flat_map, list_any}
use Rattle.std.specs.Str.{bytes_eq}
use Rattle.path_order.specs.declared.kind.Kind.{Kind}
use Rattle.path_order.specs.declared.kind.Kind.TheVariants.{File, Directory}
use Rattle.path_order.specs.Order.{path_cmp}
use Rattle.path_order.specs.Path.{joined, parent_of, base_of}
use Rattle.byte_feed.specs.Front.{spelling}
use Rattle.updatedb_conf.specs.Block.{block}
use Rattle.updatedb_conf.specs.Settings.{default_settings}
use Rattle.mlocate_db.specs.Items.{Header, Item, HeaderItem, HeadItem, EntryItem, EndItem, mlocate}

-- values sorted by an order, each once
abbrev pub sorted_unique : {K : Type 0} → (K → K → Ordering) → List K → List K
sorted_unique order values = keys (from_entries {R = order} (map (λ value. (value, tt {0})) values))

abbrev pub byte_cmp : List ℕ → List ℕ → Ordering
byte_cmp = slice_cmp nat_cmp

-- the directories of these paths, each once, in path order
abbrev pub parents : List (List ℕ) → List (List ℕ)
parents paths = sorted_unique path_cmp (map parent_of paths)

-- the names of a directory among these paths, each once, in the order of their bytes
abbrev pub names_in : List (List ℕ) → List ℕ → List (List ℕ)
names_in paths dir = sorted_unique byte_cmp (map base_of (filter (λ path. bytes_eq (parent_of path) dir) paths))

-- A path is a directory exactly where it is the directory of one of these paths.
abbrev pub kind_in : List (List ℕ) → List ℕ → Kind
kind_in paths path = if list_any (λ other. bytes_eq (parent_of other) path) paths then Directory else File

-- The version is 0, the paths are shown to all, the root is `/` (47), and the configuration is the default.
abbrev pub header : Header
header = record { version = 0; flag = false; padding = 0; root = 47 ∷ []; block = block default_settings }

abbrev pub header_item : Item
header_item = HeaderItem header

abbrev pub entry_item : List (List ℕ) → List ℕ → List ℕ → Item
entry_item paths dir name = EntryItem (kind_in paths (joined dir name)) name

-- the block of a directory, with the zero time
abbrev pub block_items : List (List ℕ) → List ℕ → List Item
block_items paths dir = HeadItem (record { seconds = 0; nanos = 0; device = 0; path = dir }) ∷ map (entry_item paths dir) (names_in paths dir) ++ EndItem ∷ []

-- the header, and the block of each directory
abbrev pub database_items : List (List ℕ) → List Item
database_items paths = header_item ∷ flat_map (block_items paths) (parents paths)

-- the bytes of the database of admitted paths
abbrev pub encode_mlocate : List (List ℕ) → List ℕ
encode_mlocate paths = spelling mlocate (database_items paths)

-- ---- what is read back

-- a path below the root as its directory and its name
abbrev pub Entry : Type 0
Entry = List ℕ × List ℕ

abbrev pub entry_of : List ℕ → Entry
entry_of path = (parent_of path, base_of path)

abbrev pub entry_path : Entry → List ℕ
entry_path entry = joined entry.0 entry.1

-- by the directories in path order, and then by the names
abbrev pub entry_cmp : Entry → Entry → Ordering
entry_cmp a b = ordering_then (path_cmp a.0 b.0) (byte_cmp a.1 b.1)

-- the entries of paths in that order, each once
abbrev pub entries_of : List (List ℕ) → List Entry
entries_of paths = sorted_unique entry_cmp (map entry_of paths)

-- Admitted paths in that order, each once. Of other paths the directory and the name need not give the path again.
abbrev pub by_directory : List (List ℕ) → List (List ℕ)
by_directory paths = map entry_path (entries_of paths)
