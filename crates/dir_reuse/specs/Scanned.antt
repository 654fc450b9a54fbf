-- A complete scan as an old database: its items, its records and its paths.
use Rattle.std.specs.Prelude.{ℕ, ◌<◌, ◌≤◌, ◌^◌, ◌==◌, All, IsTrue, List, [], ◌∷◌, ◌++◌, length, map, Some, None, if◌then◌else◌}
use Rattle.std.specs.List.{flat_map}
use Rattle.path_order.specs.Path.{is_normal, joined}
use Rattle.path_order.specs.Stamp.{Moment}
use Rattle.loc_outside.specs.Trees.{Dir, Dirs}
use Rattle.byte_feed.specs.Front.{limit}
use Rattle.mlocate_db.specs.Items.{Head, Item, HeaderItem, HeadItem, EndItem}
use Rattle.tree_scan.specs.Admitted.{admitted}
use Rattle.tree_scan.specs.Blocks.{device_in, scan_text, stamped, time_of}
use Rattle.tree_scan.specs.Plan.{Plan}
use Rattle.tree_scan.specs.Reach.{reached}
use Rattle.tree_scan.specs.Records.{Record}
use Rattle.dir_reuse.specs.Naming.{entries_of}

-- ---- its items

abbrev pub header_item : Plan → Item
header_item plan = HeaderItem (record { version = plan.version; flag = plan.flag; padding = 0; root = plan.root; block = plan.block })

-- the time that is written of a directory
abbrev pub stamp_in : Plan → Moment → List ℕ × Dir → Moment
stamp_in plan now e = stamped plan.margin (time_of e.1.times) now

abbrev pub head_in : Plan → Moment → List ℕ × Dir → Head
head_in plan now e = record { seconds = (stamp_in plan now e).seconds; nanos = (stamp_in plan now e).nanos; device = device_in plan e.0; path = e.0 }

abbrev pub block_items : Plan → Moment → List ℕ × Dir → List Item
block_items plan now e = HeadItem (head_in plan now e) ∷ (entries_of (admitted e.0 e.1) ++ EndItem ∷ [])

abbrev pub scan_items : Dirs → Plan → Moment → List Item
scan_items dirs plan now = header_item plan ∷ flat_map (block_items plan now) (reached dirs plan.pruned plan.root)

-- ---- what they give

-- the record of a directory that was scanned
abbrev pub scanned : Plan → Moment → List ℕ × Dir → Record
scanned plan now e = record {
  path = e.0;
  stamp = stamp_in plan now e;
  device = if plan.version == 1 then Some (plan.device_of e.0) else None;
  names = admitted e.0 e.1;
}

-- the paths of the names of a directory
abbrev pub paths_under : List ℕ × Dir → List (List ℕ)
paths_under e = map (λ n. joined e.0 n.0) (admitted e.0 e.1)

-- ---- when

-- what a scan asks of its plan
pub record IsPlan (plan : Plan) : Type 0 where
  pub root : IsTrue (is_normal plan.root)
  pub version : plan.version < 2
  pub block : length plan.block < 2 ^ 32

-- a directory whose time and device fit the fields of a head
pub record FitsHead (plan : Plan) (e : List ℕ × Dir) : Type 0 where
  pub seconds : (time_of e.1.times).seconds < 2 ^ 64
  pub nanos : (time_of e.1.times).nanos < 1000000000
  pub device : device_in plan e.0 < 2 ^ 32

-- a scan that is a whole database: it is shorter than the limit, and what it writes fits its fields
pub record IsWholeScan (dirs : Dirs) (plan : Plan) (now : Moment) : Type 0 where
  pub planned : IsPlan plan
  pub heads : All (FitsHead plan) (reached dirs plan.pruned plan.root)
  pub below : length (scan_text dirs plan now) < limit

-- each directory has as many names as a record may have
abbrev pub HaveFewNames : List (List ℕ × Dir) → Type 0
HaveFewNames dirs = All (λ e. length (admitted e.0 e.1) ≤ 16777216) dirs
