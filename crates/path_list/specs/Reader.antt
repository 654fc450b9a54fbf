-- A reader of a list, and what it still gives.
use Rattle.std.specs.Prelude.{ℕ, Bool, true, false, List, []}
use Rattle.byte_feed.specs.Front.{Window}
use Rattle.byte_feed.specs.Feed.{FeedState}
use Rattle.byte_feed.specs.Paths.{PathAt, ToCome, to_come, before_base}
use Rattle.path_list.specs.declared.mark.Mark.{Mark}
use Rattle.path_list.specs.declared.reader.Stage.{Stage}
use Rattle.path_list.specs.declared.reader.Stage.TheVariants as stages
use Rattle.path_list.specs.Items.{list_by}
use Rattle.path_list.specs.Marks.{byte_of}

-- The path in hand, and the number of bytes in the whole items so far.
pub record ReaderState : Type 0 where
  pub feed : FeedState
  pub mark : Mark
  pub path : List ℕ
  pub stage : Stage
  pub place : ℕ

-- a reader that has read nothing
abbrev pub fresh_on : FeedState → Mark → ReaderState
fresh_on f mark = record { feed = f; mark = mark; path = []; stage = stages.Fresh; place = 0 }

abbrev pub is_fresh : Stage → Bool
is_fresh stages.Fresh = true
is_fresh stage = false

abbrev pub is_live : Stage → Bool
is_live stages.Live = true
is_live stage = false

abbrev pub is_done : Stage → Bool
is_done stages.Done = true
is_done stage = false

-- the paths that are left, and how the list ends after them
abbrev pub paths_left : ReaderState → Window → ToCome
paths_left r w = to_come (list_by (byte_of r.mark)) tt r.place 0 w

-- the path in hand
abbrev pub path_found : ReaderState → PathAt
path_found r = record { text = r.path; dir_len = before_base r.path; heads = 0; place = r.place }
