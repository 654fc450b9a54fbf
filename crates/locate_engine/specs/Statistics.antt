-- What a database holds, counted.
use Rattle.std.specs.Prelude.{◌≡◌, ℕ, ◌-◌, ◌*◌, ◌^◌, ◌≤◌, ◌==◌, Bool, true, false, List, [], length, take, drop, Option, Some, None, IsTrue, sum_by, if◌then◌else◌, ⊤}
use Rattle.path_order.specs.Path.{joined}
use Rattle.byte_feed.specs.Paths.{PathAt, ToCome}
use Rattle.locate_engine.specs.declared.outcome.Outcome.{Outcome}
use Rattle.locate_engine.specs.declared.outcome.Outcome.TheVariants as outcomes
use Rattle.locate_engine.specs.declared.counting.Stats.{Stats}
use Rattle.locate_engine.specs.Files.{ReadsWithin}
use Rattle.locate_engine.specs.Searched.{outcome_of, is_missing_or_read_fault, is_read_fault, seen_in}

-- The name of a path in its database: where there are directory heads an entry's name, which follows its directory's
-- path and a slash, or the directory `/` alone, which ends in one; where there are none the whole path.
abbrev pub name_by : ℕ → ℕ → List ℕ → List ℕ
name_by heads dir_len text = if heads == 0 then text else drop (length (joined (take dir_len text) [])) text

abbrev pub name_len : PathAt → ℕ
name_len p = length (name_by p.heads p.dir_len p.text)

abbrev pub counted : ℕ → ℕ → ℕ → ℕ → Stats
counted directories files name_bytes stored = record { directories = directories; files = files; name_bytes = name_bytes; stored = stored }

-- the directory heads, the entries of both kinds, the bytes of their names, and the bytes of all whole items
abbrev pub stats_of : ToCome → Stats
stats_of t = counted t.heads (length t.paths) (sum_by name_len t.paths) t.place

abbrev pub no_stats : Stats
no_stats = counted 0 0 0 0

-- Nothing is counted of a file that is no database.
abbrev pub stats_after : Outcome → Stats → Stats
stats_after outcomes.NotADatabase stats = no_stats
stats_after outcome stats = stats

-- What is counted of what is read, and that it ends so, unless the reader failed.
pub record Counts (seen : ToCome) (stats : Stats) (result : Outcome) : Type 0 where
  pub counts : stats ≡ stats_after result (stats_of seen)
  pub ends : is_read_fault result ≡ false → result ≡ outcome_of seen.ending

-- each head and each entry takes a byte at least, and a name 4,096 at most
pub record Fits (stats : Stats) : Type 0 where
  pub directories : stats.directories ≤ stats.stored
  pub files : stats.files ≤ stats.stored
  pub name_bytes : stats.name_bytes ≤ 4096 * stats.files
  pub stored : stats.stored ≤ 2 ^ 40

-- what statistics can answer
abbrev pub ends_reading : Outcome → Bool
ends_reading outcomes.Whole = true
ends_reading outcomes.Missing = true
ends_reading outcomes.NotADatabase = true
ends_reading (outcomes.Damage damage) = true
ends_reading outcomes.ReadFault = true
ends_reading outcomes.TooLarge = true
ends_reading outcome = false

-- the damage is at this place, if there is any
abbrev pub DamagedAt : ℕ → Outcome → Type 0
DamagedAt place (outcomes.Damage damage) = damage.place ≡ place
DamagedAt place outcome = ⊤

-- ---- by its name

-- What was counted of a file: of all that it gives, or, where the reader failed, of what is whole in the bytes given. The
-- bytes given are then those by which their count rose, which stands still only near 2^64.
pub record CountsFile (file : List ℕ) (given given' : ℕ) (stats : Stats) (outcome : Outcome) : Type 0 where
  pub exact : (outcome ≡ outcomes.ReadFault → given ≤ 2 ^ 63) → Counts (seen_in file (given' - given) outcome) stats outcome
  pub read : ReadsWithin file given given' outcome
  pub there : outcome ≡ outcomes.Missing → ⊥

-- There is no file of the name: statistics say so, unless the reader failed, and nothing was read or counted.
pub record CountsNone (given given' : ℕ) (stats : Stats) (outcome : Outcome) : Type 0 where
  pub ended : IsTrue (is_missing_or_read_fault outcome)
  pub unread : given' ≡ given
  pub none : stats ≡ no_stats

-- what was counted of the file of a name, or without one
abbrev pub CountsFound : Option (List ℕ) → ℕ → ℕ → Stats → Outcome → Type 0
CountsFound None given given' stats outcome = CountsNone given given' stats outcome
CountsFound (Some file) given given' stats outcome = CountsFile file given given' stats outcome
