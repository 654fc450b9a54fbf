-- What is still to come from a reader of an old database.
use Rattle.std.specs.Prelude.{◌≡◌, ◌≤◌, ℕ, ◌+◌, Bool, false, not, IsTrue, Contains, filter, map, List, [], ◌∷◌, ◌++◌, length, Some, None, ⊤, MatchBool, if◌then◌else◌}
use Rattle.std.specs.declared.option.Option.{Option}
use Rattle.std.specs.Ordering.{is_lt}
use Rattle.path_order.specs.Order.{path_cmp}
use Rattle.byte_feed.specs.Front.{Window}
use Rattle.byte_feed.specs.Feed.{FeedState, window, so_far}
use Rattle.mlocate_db.specs.Items.{Head, Item, HeadItem, EntryItem, EndItem, spell}
use Rattle.mlocate_db.specs.Reader.{ReaderState, is_live, items_left}
use Rattle.tree_scan.specs.Records.{Record}
use Rattle.dir_reuse.specs.Usable.{usable_record, head_paths, paths_rise}

-- how many bytes an item has
unfoldable pub size : Item → ℕ
size item = length (spell item)

-- how many bytes a directory has behind its head
abbrev pub size_behind : List Item → ℕ
size_behind (EntryItem kind name ∷ items) = size (EntryItem kind name) + size_behind items
size_behind (EndItem ∷ items) = size EndItem
size_behind items = 0

-- a record, and the offset in the file at which its directory ends
abbrev pub Placed : Type 0
Placed = Record × ℕ

-- the same as `usable_record` and `records_in`, where the items begin at an offset
abbrev pub placed_at : ℕ → ℕ → Head → List Item → List Placed
placed_at version place head items = map (λ r. (r, place + size_behind items)) (usable_record version head items)

-- the records of all directories among some items, each with that offset
abbrev pub placed_in : ℕ → ℕ → List Item → List Placed
placed_in version place [] = []
placed_in version place (HeadItem head ∷ items) = placed_at version (place + size (HeadItem head)) head items ++ placed_in version (place + size (HeadItem head)) items
placed_in version place (item ∷ items) = placed_in version (place + size item) items

-- the records to come, and the heads to come
pub record Coming : Type 0 where
  pub blocks : List Placed
  pub heads : List (List ℕ)

abbrev pub coming_in : ℕ → ℕ → List Item → Coming
coming_in version place items = record { blocks = placed_in version place items; heads = head_paths items }

abbrev pub nothing : Coming
nothing = record { blocks = []; heads = [] }

-- the head that was read last, as the reader shows it
abbrev pub head_of : ReaderState → Head
head_of r = record { seconds = r.stamp.seconds; nanos = r.stamp.nanos; device = r.device; path = r.path }

-- what a reader still gives
abbrev pub coming : ReaderState → Window → Coming
coming r w = if is_live r.stage then coming_in r.version r.place (items_left r w).items else nothing

-- the same, where the head that was read last is to come too
abbrev pub behind_head : ReaderState → List Item → Coming
behind_head r items = record {
  blocks = placed_at r.version r.place (head_of r) items ++ placed_in r.version r.place items;
  heads = r.path ∷ head_paths items;
}

abbrev pub coming_at : ReaderState → Window → Coming
coming_at r w = behind_head r (items_left r w).items

-- ---- what is passed

-- a record whose path does not come before this one
abbrev pub not_before : List ℕ → Placed → Bool
not_before dir block = not (is_lt (path_cmp block.0.path dir))

abbrev pub records_to_come : Coming → List Record
records_to_come c = map (λ block. block.0) c.blocks

-- What is left after some was passed: some of the records, and all that do not come before this path; heads that rose
-- still rise.
pub record Skips (dir : List ℕ) (before after : Coming) : Type 0 where
  pub same : filter (not_before dir) before.blocks ≡ filter (not_before dir) after.blocks
  pub some : (r : Record) → Contains (records_to_come after) r → Contains (records_to_come before) r
  pub rise : IsTrue (paths_rise before.heads) → IsTrue (paths_rise after.heads)

-- Of the whole file, and of each first part of it that had come, this much was left.
pub record Goes (dir : List ℕ) (before after : Window → Coming) (f : FeedState) (left : List ℕ) (f' : FeedState) (left' : List ℕ) : Type 0 where
  pub whole : Skips dir (before (window f left)) (after (window f' left'))
  pub goes_on : f'.ended ≡ false → (f.ended ≡ false) × (length left' ≤ length left)
  pub parts : f'.ended ≡ false → (n : ℕ) → n ≤ length left' → Skips dir (before (so_far f left n)) (after (so_far f' left' n))

abbrev pub GoesKnown : List ℕ → (Window → Coming) → (Window → Coming) → FeedState → Option (List ℕ) → FeedState → Option (List ℕ) → Type 0
GoesKnown dir before after f None f' left' = ⊤
GoesKnown dir before after f (Some l) f' None = ⊥
GoesKnown dir before after f (Some l) f' (Some l') = Goes dir before after f l f' l'

-- When the source failed with n bytes left, no record that does not come before this path had come whole.
pub record Short (dir : List ℕ) (before : Window → Coming) (f : FeedState) (left : List ℕ) (n : ℕ) : Type 0 where
  pub goes_on : f.ended ≡ false
  pub fewer : n ≤ length left
  pub came : Skips dir (before (so_far f left n)) nothing

-- nothing is left, or the source failed
abbrev pub StopsKnown : Bool → List ℕ → (Window → Coming) → FeedState → Option (List ℕ) → Option (List ℕ) → Type 0
StopsKnown failed dir before f None left' = ⊤
StopsKnown failed dir before f (Some l) None = ⊥
StopsKnown failed dir before f (Some l) (Some l') = MatchBool failed (Short dir before f l (length l')) (Skips dir (before (window f l)) nothing)
