-- What a search for a directory comes to.
use Rattle.std.specs.Prelude.{◌≡◌, ◌≤◌, ◌<◌, ◌^◌, ℕ, Bool, false, true, List, length}
use Rattle.std.specs.declared.option.Option.{Option}
use Rattle.std.specs.declared.cmp.Ordering.TheVariants.{Greater}
use Rattle.path_order.specs.Order.{path_cmp}
use Rattle.byte_feed.specs.declared.damage.DbFault.{DbFault}
use Rattle.byte_feed.specs.declared.damage.DbFault.TheVariants as faults
use Rattle.mlocate_db.specs.declared.db_reader.Stage.TheVariants as stages
use Rattle.mlocate_db.specs.Reader.{ReaderState, is_live}
use Rattle.dir_reuse.specs.declared.seeking.Sought.{Sought}
use Rattle.dir_reuse.specs.declared.seeking.Sought.TheVariants as sought
use Rattle.dir_reuse.specs.Coming.{coming, coming_at, GoesKnown, StopsKnown}

-- a head was read, and nothing behind it; at most 4,096 bytes are held there
pub record AtHead (r : ReaderState) : Type 0 where
  pub inside : r.stage ≡ stages.Inside
  pub whole : r.dir_len ≡ length r.path
  pub near : r.feed.offset ≡ r.place
  pub held : length r.feed.held ≤ 4096

abbrev pub SeekKnown : List ℕ → Sought → ReaderState → Option (List ℕ) → ReaderState → Option (List ℕ) → Type 0
SeekKnown dir sought.Here r left r' left' = GoesKnown dir (coming r) (coming_at r') r.feed left r'.feed left'
SeekKnown dir sought.Later r left r' left' = GoesKnown dir (coming r) (coming_at r') r.feed left r'.feed left'
SeekKnown dir sought.End r left r' left' = StopsKnown false dir (coming r) r.feed left left'
SeekKnown dir sought.Fault r left r' left' = StopsKnown true dir (coming r) r.feed left left'

-- what the reader shows then, whatever its source tells
abbrev pub SeekShows : List ℕ → Sought → ReaderState → Type 0
SeekShows dir sought.Here r = AtHead r × (r.path ≡ dir)
SeekShows dir sought.Later r = AtHead r × (path_cmp r.path dir ≡ Greater)
SeekShows dir sought.End r = is_live r.stage ≡ false
SeekShows dir sought.Fault r = is_live r.stage ≡ false

-- what it comes to where reading on is refused
abbrev pub stop_of : DbFault → Sought
stop_of faults.ReadFault = sought.Fault
stop_of fault = sought.End

abbrev pub finds_head : Sought → Bool
finds_head sought.Here = true
finds_head sought.Later = true
finds_head sought.End = false
finds_head sought.Fault = false

-- a reader has come further in the file
pub record Further (r r' : ReaderState) : Type 0 where
  pub grows : r.place < r'.place
  pub bound : r'.place ≤ 2 ^ 40
