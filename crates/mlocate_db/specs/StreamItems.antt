-- What a stream gives of an item, part by part.
use Rattle.std.specs.Prelude.{◌≡◌, ℕ, ◌≤◌, Bool, true, List, ◌++◌, length, take, drop, Option, Some, None, Result, Ok, Err, ⊤, ◌↔◌}
use Rattle.byte_feed.specs.declared.damage.Break.{Break}
use Rattle.byte_feed.specs.Field.{IsText}
use Rattle.byte_feed.specs.Feed.{FeedState}
use Rattle.byte_feed.specs.Stream.{Gave, Breaks}
use Rattle.mlocate_db.specs.declared.item.Fixed.{Fixed}
use Rattle.mlocate_db.specs.declared.item.Listed.{Listed}
use Rattle.mlocate_db.specs.declared.item.Listed.TheVariants as listeds
use Rattle.mlocate_db.specs.Items.{Item, EntryItem, EndItem, header_at, as_header, in_directory, room_in}

-- A header with these first fields and this root was given, and the answer tells whether its block is this one.
pub record GaveHeader (fixed : Fixed) (root expected : List ℕ) (f : FeedState) (left : List ℕ) (f' : FeedState) (left' : List ℕ) (same : Bool) : Type 0 where
  pub block : List ℕ
  pub gave : Gave header_at (as_header fixed root block) f left f' left'
  pub is_same : same ≡ true ↔ block ≡ expected

abbrev pub HeaderKnown : List ℕ → List ℕ → FeedState → Option (List ℕ) → FeedState → Option (List ℕ) → Result (Fixed × Bool) Break → Type 0
HeaderKnown expected root f None f' left' r = ⊤
HeaderKnown expected root f (Some l) f' None r = ⊥
HeaderKnown expected root f (Some l) f' (Some l') (Ok x) = GaveHeader x.0 root expected f l f' l' x.1
HeaderKnown expected root f (Some l) f' (Some l') (Err b) = Breaks header_at f l (length l') b

-- an item behind a head, with the name where it lies
abbrev pub listed_item : Listed → List ℕ → Item
listed_item (listeds.Entry kind) name = EntryItem kind name
listed_item listeds.End name = EndItem

-- the same, whose name stands in this path behind the directory's
abbrev pub item_in : List ℕ → List ℕ → Listed → Item
item_in dir path x = listed_item x (drop (length (in_directory dir)) path)

-- the path that an item leaves, of a directory whose path is this
abbrev pub ListedAt : Listed → List ℕ → List ℕ → Type 0
ListedAt (listeds.Entry kind) dir path = (path ≡ in_directory dir ++ drop (length (in_directory dir)) path) × IsText (room_in dir) (drop (length (in_directory dir)) path)
ListedAt listeds.End dir path = ⊤

-- The path in hand after an item. The directory's path, of this length, still begins it, and an entry's name stands
-- behind that.
pub record IsPathAfter (x : Listed) (dir_len : ℕ) (path path' : List ℕ) : Type 0 where
  pub dir : take dir_len path' ≡ take dir_len path
  pub len : dir_len ≤ length path'
  pub listed : ListedAt x (take dir_len path) path'
