-- The records of an old database: the usable directories of its front.
use Rattle.std.specs.Prelude.{ℕ, Bool, true, false, ◌&&◌, ◌||◌, ◌==◌, nat_le, List, [], ◌∷◌, ◌++◌, length, Option, Some, None, if◌then◌else◌}
use Rattle.std.specs.Option.{option_map_or}
use Rattle.std.specs.Ordering.{nat_cmp, is_lt}
use Rattle.std.specs.Cmp.Lexicographic.{slice_cmp}
use Rattle.std.specs.FinMap.{is_sorted}
use Rattle.std.specs.List.{list_all}
use Rattle.std.specs.Str.{bytes_eq}
use Rattle.path_order.specs.NameList.{Listed}
use Rattle.path_order.specs.Names.{is_name}
use Rattle.path_order.specs.Order.{path_cmp}
use Rattle.byte_feed.specs.Front.{front}
use Rattle.mlocate_db.specs.Items.{Header, Head, Item, HeaderItem, HeadItem, EntryItem, EndItem, mlocate}
use Rattle.tree_scan.specs.Records.{Record}

-- the entries that come first
abbrev pub leading_entries : List Item → Listed
leading_entries (EntryItem kind name ∷ items) = (name, kind) ∷ leading_entries items
leading_entries items = []

-- whether the end of the directory follows the entries
abbrev pub has_end : List Item → Bool
has_end (EntryItem kind name ∷ items) = has_end items
has_end (EndItem ∷ items) = true
has_end items = false

-- Names that a record may have: each passes `is_name`, they strictly rise by their bytes, and there are at most 16,777,216.
abbrev pub are_usable : Listed → Bool
are_usable names = list_all (λ e. is_name e.0) names && is_sorted (slice_cmp nat_cmp) names && nat_le (length names) 16777216

-- what a head tells of its directory; the device field is one in version 1 alone
abbrev pub record_of : ℕ → Head → Listed → Record
record_of version head names = record {
  path = head.path;
  stamp = record { seconds = head.seconds; nanos = head.nanos };
  device = if version == 1 then Some head.device else None;
  names = names;
}

-- The record of a directory with this head, where these items follow: one if its end follows the entries and their names
-- are usable, else none.
abbrev pub usable_record : ℕ → Head → List Item → List Record
usable_record version head items = if has_end items && are_usable (leading_entries items) then record_of version head (leading_entries items) ∷ [] else []

-- the records of the directories whose heads are among these items, in their order
abbrev pub records_in : ℕ → List Item → List Record
records_in version [] = []
records_in version (HeadItem head ∷ items) = usable_record version head items ++ records_in version items
records_in version (item ∷ items) = records_in version items

-- Behind a header with this root and configuration block the records are those of the directories, behind another there
-- are none.
abbrev pub records_if_same_setup : List ℕ → List ℕ → List Item → List Record
records_if_same_setup root block (HeaderItem header ∷ items) = if bytes_eq header.root root && bytes_eq header.block block then records_in header.version items else []
records_if_same_setup root block items = []

-- the records of an old file, for this root and configuration block: none where it does not begin with a whole header
abbrev pub records : List ℕ → List ℕ → List ℕ → List Record
records root block file = records_if_same_setup root block (front mlocate file)

-- ---- the header

-- the header among these items, if it is the first of them
abbrev pub first_header : List Item → Option Header
first_header (HeaderItem header ∷ items) = Some header
first_header items = None

-- the header of an old file, if it begins with a whole one
abbrev pub header_of : List ℕ → Option Header
header_of file = first_header (front mlocate file)

-- whether it has this root and configuration block
abbrev pub has_setup : List ℕ → List ℕ → List ℕ → Bool
has_setup root block file = option_map_or (λ header. bytes_eq header.root root && bytes_eq header.block block) (header_of file) false

-- ---- their order

-- the paths of the heads among these items, in their order
abbrev pub head_paths : List Item → List (List ℕ)
head_paths [] = []
head_paths (HeadItem head ∷ items) = head.path ∷ head_paths items
head_paths (item ∷ items) = head_paths items

-- each comes in path order before all that follow it
abbrev pub paths_rise : List (List ℕ) → Bool
paths_rise [] = true
paths_rise (path ∷ paths) = list_all (λ later. is_lt (path_cmp path later)) paths && paths_rise paths

abbrev pub is_empty : List Record → Bool
is_empty [] = true
is_empty (r ∷ records) = false

-- Whether an old file is in order: it has no records, or the paths of the heads in its front strictly rise. A head whose
-- directory is no record counts too, since a reader that goes forward only cannot know that before it has passed it.
abbrev pub is_ordered : List ℕ → List ℕ → List ℕ → Bool
is_ordered root block file = is_empty (records root block file) || paths_rise (head_paths (front mlocate file))
