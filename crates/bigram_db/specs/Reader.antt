-- A reader of a database, and what it still gives.
use Rattle.std.specs.Prelude.{ℕ, Bool, true, false, List, [], replicate}
use Rattle.byte_feed.specs.Front.{Window}
use Rattle.byte_feed.specs.Feed.{FeedState}
use Rattle.byte_feed.specs.Paths.{PathAt, ToCome, to_come, before_base}
use Rattle.bigram_db.specs.declared.reader.Stage.{Stage}
use Rattle.bigram_db.specs.declared.reader.Stage.TheVariants as stages
use Rattle.bigram_db.specs.Items.{State, AtStart, After, bigram}

-- The table, the path in hand, how many bytes it shared with the one before it, and the number of bytes in the whole
-- items so far.
pub record ReaderState : Type 0 where
  pub feed : FeedState
  pub table : List ℕ
  pub path : List ℕ
  pub shared : ℕ
  pub stage : Stage
  pub place : ℕ

-- a reader that has read nothing
abbrev pub fresh_on : FeedState → ReaderState
fresh_on f = record { feed = f; table = replicate 256 0; path = []; shared = 0; stage = stages.Fresh; place = 0 }

abbrev pub is_fresh : Stage → Bool
is_fresh stages.Fresh = true
is_fresh stage = false

abbrev pub is_live : Stage → Bool
is_live stages.Live = true
is_live stage = false

abbrev pub is_done : Stage → Bool
is_done stages.Done = true
is_done stage = false

-- what the items so far leave; nobody asks it of a reader that is done
abbrev pub state_by : Stage → List ℕ → List ℕ → ℕ → State
state_by stages.Fresh table path shared = AtStart
state_by stages.Live table path shared = After table path shared
state_by stages.Done table path shared = After table path shared

abbrev pub state_of : ReaderState → State
state_of r = state_by r.stage r.table r.path r.shared

-- the paths that are left, and how the file ends after them
abbrev pub paths_left : ReaderState → Window → ToCome
paths_left r w = to_come bigram (state_of r) r.place 0 w

-- the path in hand
abbrev pub path_found : ReaderState → PathAt
path_found r = record { text = r.path; dir_len = before_base r.path; heads = 0; place = r.place }
