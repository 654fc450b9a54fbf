-- A reader of a database, and what it still gives.
use Rattle.std.specs.Prelude.{◌≡◌, ℕ, ◌+◌, ◌<◌, ◌≤◌, ◌^◌, Bool, true, false, IsTrue, List, [], ◌++◌, length, take, drop, Option, Some, None, Result, Ok, Err, OnOk, OnErr, ⊤, ◌↔◌}
use Rattle.path_order.specs.Stamp.{Moment}
use Rattle.byte_feed.specs.declared.damage.Break.{Break}
use Rattle.byte_feed.specs.declared.damage.DbFault.{DbFault}
use Rattle.byte_feed.specs.Front.{Window}
use Rattle.byte_feed.specs.Feed.{FeedState}
use Rattle.byte_feed.specs.Field.{IsText}
use Rattle.byte_feed.specs.Endings.{fault_at}
use Rattle.byte_feed.specs.Paths.{Rest, PathAt, ToCome, rest_of, to_come, after_item, no_items}
use Rattle.byte_feed.specs.Calls.{Moved, MovedKnown, EndsKnown}
use Rattle.mlocate_db.specs.declared.db_reader.Stage.{Stage}
use Rattle.mlocate_db.specs.declared.db_reader.Stage.TheVariants as stages
use Rattle.mlocate_db.specs.declared.db_reader.Step.{Step}
use Rattle.mlocate_db.specs.declared.db_reader.Step.TheVariants as steps
use Rattle.mlocate_db.specs.Items.{State, AtStart, Between, Inside, Header, Item, HeaderItem, HeadItem, EntryItem, EndItem, in_directory, mlocate}

-- The path in hand, the length of its directory's path, the header's version and flag, the last head's time and device,
-- how many first bytes the path found last has of the path in hand before it, and the number of bytes and heads in the
-- whole items so far.
pub record ReaderState : Type 0 where
  pub feed : FeedState
  pub path : List ℕ
  pub dir_len : ℕ
  pub stage : Stage
  pub version : ℕ
  pub flag : Bool
  pub stamp : Moment
  pub device : ℕ
  pub shared : ℕ
  pub place : ℕ
  pub heads : ℕ

-- a reader that has read nothing
abbrev pub fresh_on : FeedState → ReaderState
fresh_on f = record {
  feed = f;
  path = [];
  dir_len = 0;
  stage = stages.Fresh;
  version = 0;
  flag = false;
  stamp = record { seconds = 0; nanos = 0 };
  device = 0;
  shared = 0;
  place = 0;
  heads = 0;
}

abbrev pub is_fresh : Stage → Bool
is_fresh stages.Fresh = true
is_fresh stage = false

abbrev pub is_live : Stage → Bool
is_live stages.Between = true
is_live stages.Inside = true
is_live stage = false

abbrev pub is_inside : Stage → Bool
is_inside stages.Inside = true
is_inside stage = false

abbrev pub is_done : Stage → Bool
is_done stages.Done = true
is_done stage = false

-- the path of the directory in hand
abbrev pub dir_of : ReaderState → List ℕ
dir_of r = take r.dir_len r.path

-- what the items so far leave
abbrev pub state_by : Stage → ℕ → List ℕ → State
state_by stages.Fresh version dir = AtStart
state_by stages.Between version dir = Between version
state_by stages.Inside version dir = Inside version dir
state_by stages.Done version dir = Between version

abbrev pub state_of : ReaderState → State
state_of r = state_by r.stage r.version (dir_of r)

-- the items that are left, and how the file ends after them
abbrev pub items_left : ReaderState → Window → Rest mlocate
items_left r w = rest_of mlocate (state_of r) r.place w

-- the same as paths
abbrev pub paths_left : ReaderState → Window → ToCome
paths_left r w = to_come mlocate (state_of r) r.place r.heads w

-- the path in hand, as an entry gives it
abbrev pub path_found : ReaderState → PathAt
path_found r = record { text = r.path; dir_len = r.dir_len; heads = r.heads; place = r.place }

-- ---- a step

-- The item that a step read, by what the reader shows after it. The last case is never asked: `End` is no item.
abbrev pub item_shown : Step → ReaderState → Item
item_shown steps.Directory r = HeadItem (record { seconds = r.stamp.seconds; nanos = r.stamp.nanos; device = r.device; path = r.path })
item_shown (steps.Entry kind) r = EntryItem kind (drop (length (in_directory (dir_of r))) r.path)
item_shown steps.EndDirectory r = EndItem
item_shown steps.End r = EndItem

-- The item was given off the rest of the file, or none is left and the file ends so.
abbrev pub StepGives : Result Step DbFault → ReaderState → Option (List ℕ) → ReaderState → Option (List ℕ) → Type 0
StepGives (Ok steps.End) r left r' left' = EndsKnown (items_left r) (no_items mlocate r.place) r.feed left left' (Ok tt)
StepGives (Ok step) r left r' left' = MovedKnown (items_left r) (items_left r') (after_item mlocate (item_shown step r')) r.feed left r'.feed left'
StepGives (Err fault) r left r' left' = EndsKnown (items_left r) (no_items mlocate r.place) r.feed left left' (Err fault)

-- the same, where a part of the item broke off
abbrev pub StepBreaks : Result Step Break → ReaderState → Option (List ℕ) → ReaderState → Option (List ℕ) → Type 0
StepBreaks (Ok step) r left r' left' = StepGives (Ok step) r left r' left'
StepBreaks (Err cause) r left r' left' = StepGives (Err (fault_at r.place cause)) r left r' left'

-- a directory was opened, and the path is its own
pub record ShowsHead (r r' : ReaderState) : Type 0 where
  pub before : r.stage ≡ stages.Between
  pub after : r'.stage ≡ stages.Inside
  pub whole : r'.dir_len ≡ length r'.path
  pub text : IsText 4096 r'.path
  pub heads : r'.heads ≡ r.heads + 1

-- the path is that of a name in the directory in hand
pub record ShowsEntry (r r' : ReaderState) : Type 0 where
  pub before : r.stage ≡ stages.Inside
  pub after : r'.stage ≡ stages.Inside
  pub dir : dir_of r' ≡ dir_of r
  pub dir_len : r'.dir_len ≡ r.dir_len
  pub below : r'.dir_len < length r'.path
  pub joined : r'.path ≡ in_directory (dir_of r) ++ drop (length (in_directory (dir_of r))) r'.path
  pub text : IsText 4096 r'.path
  pub stamp : r'.stamp ≡ r.stamp
  pub device : r'.device ≡ r.device
  pub heads : r'.heads ≡ r.heads

-- the directory in hand was closed
pub record ShowsEnd (r r' : ReaderState) : Type 0 where
  pub before : r.stage ≡ stages.Inside
  pub after : r'.stage ≡ stages.Between
  pub stamp : r'.stamp ≡ r.stamp
  pub device : r'.device ≡ r.device
  pub heads : r'.heads ≡ r.heads

-- no item was read
pub record ShowsNone (r r' : ReaderState) : Type 0 where
  pub stamp : r'.stamp ≡ r.stamp
  pub device : r'.device ≡ r.device
  pub heads : r'.heads ≡ r.heads

-- what the reader shows after a step, whatever its source tells
abbrev pub Shows : {E : Type 0} → Result Step E → ReaderState → ReaderState → Type 0
Shows (Ok steps.Directory) r r' = ShowsHead r r'
Shows (Ok (steps.Entry kind)) r r' = ShowsEntry r r'
Shows (Ok steps.EndDirectory) r r' = ShowsEnd r r'
Shows (Ok steps.End) r r' = (r.stage ≡ stages.Between) × ShowsNone r r'
Shows (Err fault) r r' = ShowsNone r r'

-- whether a step goes on
abbrev pub goes_on : {E : Type 0} → Result Step E → Bool
goes_on (Ok steps.End) = false
goes_on (Ok step) = true
goes_on (Err fault) = false

-- What a step leaves besides. Its place moves on just where an item was read, and unless a fault came the feed stands
-- there; after a fault it stands no further than the longest head reaches, 4,113 bytes. The header's version and flag stay
-- the same.
pub record Stepped {E : Type 0} (result : Result Step E) (r r' : ReaderState) : Type 0 where
  pub grows : IsTrue (goes_on result) → r.place < r'.place
  pub stays : goes_on result ≡ false → r'.place ≡ r.place
  pub at : OnOk result (r'.feed.offset ≡ r'.place)
  pub near : r'.feed.offset ≤ r'.place + 4113
  pub bound : r'.place ≤ 2 ^ 40
  pub heads : r'.heads ≤ r'.place
  pub within : r'.dir_len ≤ length r'.path
  pub version : r'.version ≡ r.version
  pub flag : r'.flag ≡ r.flag

-- ---- the header

-- This header was given off the front of the file. The path in hand is its root.
pub record HeaderGiven (r : ReaderState) (left : List ℕ) (r' : ReaderState) (left' : List ℕ) : Type 0 where
  pub header : Header
  pub moved : Moved (items_left r) (items_left r') (after_item mlocate (HeaderItem header)) r.feed left r'.feed left'
  pub between : r'.stage ≡ stages.Between
  pub version : r'.version ≡ header.version
  pub flag : r'.flag ≡ header.flag
  pub root : r'.path ≡ header.root

-- the same, where the source tells its bytes; or why no whole header stands there
abbrev pub HeaderGives : Result (Unit {0}) DbFault → ReaderState → Option (List ℕ) → ReaderState → Option (List ℕ) → Type 0
HeaderGives (Ok x) r None r' left' = ⊤
HeaderGives (Ok x) r (Some l) r' None = ⊥
HeaderGives (Ok x) r (Some l) r' (Some l') = HeaderGiven r l r' l'
HeaderGives (Err fault) r left r' left' = EndsKnown (items_left r) (no_items mlocate r.place) r.feed left left' (Err fault)

-- the same, and the answer tells whether the header's root and configuration block are these
pub record Starts (r : ReaderState) (left : List ℕ) (r' : ReaderState) (left' : List ℕ) (root block : List ℕ) (same : Bool) : Type 0 where
  pub begins : HeaderGiven r left r' left'
  pub is_same : same ≡ true ↔ (begins.header.root ≡ root) × (begins.header.block ≡ block)

abbrev pub StartKnown : Result Bool DbFault → ReaderState → Option (List ℕ) → ReaderState → Option (List ℕ) → List ℕ → List ℕ → Type 0
StartKnown (Ok same) r None r' left' root block = ⊤
StartKnown (Ok same) r (Some l) r' None root block = ⊥
StartKnown (Ok same) r (Some l) r' (Some l') root block = Starts r l r' l' root block same
StartKnown (Err fault) r left r' left' root block = EndsKnown (items_left r) (no_items mlocate r.place) r.feed left left' (Err fault)

-- What a start leaves besides. Nothing was read before it, and it reads no head. Where the header is whole, the place
-- moves to its end, the feed stands there, and a head is read next; else the place stays.
pub record Started {A E : Type 0} (result : Result A E) (r r' : ReaderState) : Type 0 where
  pub place_before : r.place ≡ 0
  pub heads_before : r.heads ≡ 0
  pub heads : r'.heads ≡ r.heads
  pub grows : OnOk result (r.place < r'.place)
  pub at : OnOk result (r'.feed.offset ≡ r'.place)
  pub between : OnOk result (r'.stage ≡ stages.Between)
  pub stays : OnErr result (r'.place ≡ r.place)
  pub spent : is_fresh r'.stage ≡ false
  pub bound : r'.place ≤ 2 ^ 40
  pub stamp : r'.stamp ≡ r.stamp
  pub device : r'.device ≡ r.device
