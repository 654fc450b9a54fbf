-- A reader of a database of any format, and what it still gives.
use Rattle.std.specs.Prelude.{◌≡◌, ℕ, Bool, true, false, List, [], Option, Some, None, ⊤}
use Rattle.byte_feed.specs.Front.{Window}
use Rattle.byte_feed.specs.Feed.{FeedState, empty_at, window}
use Rattle.byte_feed.specs.Paths.{PathAt, ToCome}
use Rattle.mlocate_db.specs.Reader.{is_live as live_mlocate, paths_left as left_mlocate, path_found as found_mlocate}
use Rattle.locate02_db.specs.Reader.{is_live as live_locate02, paths_left as left_locate02, path_found as found_locate02}
use Rattle.bigram_db.specs.Reader.{is_live as live_bigram, paths_left as left_bigram, path_found as found_bigram}
use Rattle.any_db.specs.Formats.{format_of, read_as, to_come_in}
use Rattle.any_db.specs.declared.format.DatabaseFormat.{DatabaseFormat}
use Rattle.any_db.specs.declared.format.DatabaseFormat.TheVariants as formats
use Rattle.any_db.specs.declared.any_reader.AnyReader.{AnyReader}
use Rattle.any_db.specs.declared.any_reader.Stage.{Stage}
use Rattle.any_db.specs.declared.any_reader.Stage.TheVariants.{Fresh, Failed, Mlocate, Locate02, Bigram}

-- a reader that has read nothing
abbrev pub fresh : AnyReader
fresh = record { stage = Fresh }

abbrev pub is_fresh : Stage → Bool
is_fresh Fresh = true
is_fresh stage = false

-- the format, where it is known
abbrev pub format_known : Stage → Option DatabaseFormat
format_known Fresh = None
format_known (Failed feed) = None
format_known (Mlocate r) = Some formats.Mlocate
format_known (Locate02 r) = Some formats.Locate02
format_known (Bigram r) = Some formats.Bigram

-- The format that is known once the first item, read in this format, came whole or not. Its first bytes alone show a
-- database of mlocate and a LOCATE02 database, but only a whole table shows a bigram database.
abbrev pub known_after : Bool → DatabaseFormat → Option DatabaseFormat
known_after true format = Some format
known_after false formats.Mlocate = Some formats.Mlocate
known_after false formats.Locate02 = Some formats.Locate02
known_after false formats.Bigram = None

-- Where the source tells its bytes, this is the format of the file; none, where it is no database.
abbrev pub FormatKnown : FeedState → Option (List ℕ) → Option DatabaseFormat → Type 0
FormatKnown f None format = ⊤
FormatKnown f (Some l) format = format ≡ format_of (window f l).bytes

-- Where the source tells its bytes, this is the format that the file is read in.
abbrev pub ReadAsKnown : FeedState → Option (List ℕ) → DatabaseFormat → Type 0
ReadAsKnown f None format = ⊤
ReadAsKnown f (Some l) format = format ≡ read_as (window f l).bytes

abbrev pub feed_of : Stage → FeedState
feed_of Fresh = empty_at 0
feed_of (Failed feed) = feed
feed_of (Mlocate r) = r.feed
feed_of (Locate02 r) = r.feed
feed_of (Bigram r) = r.feed

-- the paths that are left, and how the file ends after them; nobody asks it of a reader that failed
abbrev pub paths_left : Stage → Window → ToCome
paths_left Fresh w = to_come_in w
paths_left (Failed feed) w = to_come_in w
paths_left (Mlocate r) w = left_mlocate r w
paths_left (Locate02 r) w = left_locate02 r w
paths_left (Bigram r) w = left_bigram r w

abbrev pub is_live : Stage → Bool
is_live Fresh = false
is_live (Failed feed) = false
is_live (Mlocate r) = live_mlocate r.stage
is_live (Locate02 r) = live_locate02 r.stage
is_live (Bigram r) = live_bigram r.stage

abbrev pub is_gated : Stage → Bool
is_gated (Mlocate r) = r.flag
is_gated stage = false

abbrev pub no_path : PathAt
no_path = record { text = []; dir_len = 0; heads = 0; place = 0 }

-- the path in hand
abbrev pub path_found : Stage → PathAt
path_found Fresh = no_path
path_found (Failed feed) = no_path
path_found (Mlocate r) = found_mlocate r
path_found (Locate02 r) = found_locate02 r
path_found (Bigram r) = found_bigram r

-- how many of its first bytes are those of the path in hand before
abbrev pub shares_in : Stage → ℕ
shares_in Fresh = 0
shares_in (Failed feed) = 0
shares_in (Mlocate r) = r.shared
shares_in (Locate02 r) = r.shared
shares_in (Bigram r) = r.shared

abbrev pub stored_in : Stage → ℕ
stored_in Fresh = 0
stored_in (Failed feed) = 0
stored_in (Mlocate r) = r.place
stored_in (Locate02 r) = r.place
stored_in (Bigram r) = r.place

abbrev pub heads_in : Stage → ℕ
heads_in (Mlocate r) = r.heads
heads_in stage = 0
