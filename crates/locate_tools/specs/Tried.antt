-- What was done of one database, whatever failed.
use Rattle.std.specs.Prelude.{◌≡◌, ℕ, ◌+◌, ◌-◌, ◌≤◌, ◌<◌, ◌^◌, ◌⊎◌, Bool, true, false, if◌then◌else◌, List, [], Option, Some, None, IfSome, IsTrue}
use Rattle.std.specs.FinMap.{get}
use Rattle.std.specs.Io.KnownBytes.{Appends}
use Rattle.loc_outside.specs.Causes.{Rose}
use Rattle.loc_outside.specs.Outside.{AppendsPart}
use Rattle.locate_engine.specs.Files.{ReadsWithin, SearchesAll, SearchesPart}
use Rattle.locate_engine.specs.Searched.{Stand, is_missing_or_read_fault, seen_in}
use Rattle.locate_engine.specs.Sight.{NoneFailed as NoCallFailed, stand_in}
use Rattle.locate_engine.specs.Sought.{Sought}
use Rattle.locate_engine.specs.Statistics.{Counts, ends_reading, no_stats}
use Rattle.locate_engine.specs.declared.counting.Stats.{Stats}
use Rattle.locate_engine.specs.declared.query.Query.{Query}
use Rattle.locate_engine.specs.declared.outcome.Outcome.{Outcome}
use Rattle.locate_engine.specs.declared.outcome.Outcome.TheVariants as outcomes
use Rattle.locate_tools.specs.Messages.{statistics_text}
use Rattle.locate_tools.specs.Standing.{Standing, ends_run, sight_in}
use Rattle.locate_tools.specs.Work.{Work, Search, Statistics}
use Rattle.locate_tools.specs.declared.databases.Work.{Work as WorkAsked}
use Rattle.locate_tools.specs.declared.databases.Work.TheVariants as works

-- what standard output has taken, how many paths were found, and how often the gate was asked
abbrev pub stand_of : Standing → Stand
stand_of s = stand_in (sight_in s)

-- no call of the reader, of the gate or of standard output failed
abbrev pub NoneFailed : Standing → Standing → Type 0
NoneFailed s s' = NoCallFailed (sight_in s) (sight_in s')

-- The outcome is how the search ended; or a failed write, where what was printed could not be passed on.
abbrev pub EndsAs : Outcome → Outcome → Type 0
EndsAs ended outcome = (outcome ≡ ended) ⊎ (outcome ≡ outcomes.WriteFault)

-- there is no file, or a call failed
abbrev pub IsMissingOrFailed : Outcome → Type 0
IsMissingOrFailed outcome = IsTrue (is_missing_or_read_fault outcome) ⊎ (outcome ≡ outcomes.WriteFault)

-- Files and tests stay, counts rise, and an outcome that tells of a failed call comes only where such a call failed. Unless
-- a write failed, all that was written has gone out.
pub record Moves (s : Standing) (outcome : Outcome) (s' : Standing) : Type 0 where
  pub files : s'.files ≡ s.files
  pub tests : s'.tests ≡ s.tests
  pub given : s.given ≤ s'.given
  pub given_within : s'.given ≤ s.given + 2 ^ 40
  pub matched : s.matched ≤ s'.matched
  pub matched_within : s'.matched ≤ s.matched + 2 ^ 40
  pub reads : s.reads_failed ≤ s'.reads_failed
  pub gate : s.gate_failed ≤ s'.gate_failed
  pub writes : s.writes_failed ≤ s'.writes_failed
  pub read_fault : outcome ≡ outcomes.ReadFault → Rose s.reads_failed s'.reads_failed
  pub gate_fault : outcome ≡ outcomes.GateFault → Rose s.gate_failed s'.gate_failed
  pub write_fault : outcome ≡ outcomes.WriteFault → Rose s.writes_failed s'.writes_failed
  pub passed_on : (outcome ≡ outcomes.WriteFault → ⊥) → s'.held_back ≡ 0

-- How much of a file was read, and nothing where there is none.
abbrev pub ReadsIn : Option (List ℕ) → ℕ → ℕ → Outcome → Type 0
ReadsIn None given given' outcome = given' ≡ given
ReadsIn (Some file) given given' outcome = ReadsWithin file given given' outcome

-- the same, where no step is counted
abbrev pub uncounted : Sought → Sought
uncounted sought = record { wanted = sought.wanted; bound = λ path. 0 }

-- what a search does that ends so with a file, and what it does where no call fails
abbrev pub Searched : Sought → Query → List ℕ → Standing → Outcome → Standing → Type 0
Searched sought query file s outcome s' = SearchesPart (uncounted sought) query file (sight_in s) outcome (sight_in s')

abbrev pub SearchedAll : Sought → Query → List ℕ → Standing → Outcome → Standing → Type 0
SearchedAll sought query file s outcome s' = SearchesAll sought query file (sight_in s) outcome (sight_in s')

-- What is so of a search that is passed on, whatever is told of its paths.
pub record SearchAnswers (query : Query) (name : List ℕ) (s : Standing) (outcome : Outcome) (s' : Standing) : Type 0 where
  pub moves : Moves s outcome s'
  pub missing : IfSome s.files (λ files. outcome ≡ outcomes.Missing → get files name ≡ None)
  pub absent : IfSome s.files (λ files. get files name ≡ None → IsMissingOrFailed outcome)
  pub nothing : IfSome s.files (λ files. get files name ≡ None → stand_of s' ≡ stand_of s)
  pub reaches : outcome ≡ outcomes.LimitReached → query.limit ≡ Some s'.matched

-- a failed read and a failed gate end a search only where such a call failed
abbrev pub EndedBy : Outcome → Standing → Standing → Type 0
EndedBy ended s s' =
    (ended ≡ outcomes.ReadFault → Rose s.reads_failed s'.reads_failed) × (ended ≡ outcomes.GateFault → Rose s.gate_failed s'.gate_failed)

-- how the search of a file that is there ended, and what it did
abbrev pub SearchedAs : Sought → Query → List ℕ → Standing → Outcome → Standing → Type 0
SearchedAs sought query name s outcome s' =
    IfSome s.files (λ files. IfSome (get files name) (λ file. (ended : Outcome) × EndsAs ended outcome × EndedBy ended s s' × Searched sought query file s ended s'))

-- One database was searched, and what was printed was passed on.
pub record TriedSearch (sought : Sought) (query : Query) (name : List ℕ) (s : Standing) (outcome : Outcome) (s' : Standing) : Type 0 where
  pub answers : SearchAnswers query name s outcome s'
  pub reads : IfSome s.files (λ files. ReadsIn (get files name) s.given s'.given outcome)
  pub searched : SearchedAs sought query name s outcome s'
  pub whole : IfSome s.files (λ files. IfSome (get files name) (λ file. NoneFailed s s' → SearchedAll sought query file s outcome s'))
  pub under : ends_run outcome ≡ false → IfSome query.limit (λ limit. s'.matched < limit)
  pub unopened : outcome ≡ outcomes.Missing → (stand_of s' ≡ stand_of s) × (s'.given ≡ s.given)
  pub unprinted : IsTrue query.count_only → s'.taken ≡ s.taken

-- ---- statistics

-- whether statistics are written of a database with this outcome
abbrev pub has_statistics : Outcome → Bool
has_statistics outcomes.Missing = false
has_statistics outcomes.NotADatabase = false
has_statistics outcome = true

-- what is written of a database that ends so
abbrev pub text_after : Outcome → List ℕ → Stats → List ℕ
text_after ended name stats = if has_statistics ended then statistics_text name stats else []

-- a text was written, or, where a write failed, a first part of it
abbrev pub WritesAs : Outcome → Option (List ℕ) → Option (List ℕ) → List ℕ → Type 0
WritesAs outcomes.WriteFault taken taken' text = AppendsPart taken taken' text
WritesAs outcome taken taken' text = Appends taken taken' text

-- How counting a database ended, and the text of what was counted: of a file that is there its whole items, or, where a
-- read failed, those that are whole in the bytes given; of one that is not there nothing.
pub record CountsText (name : List ℕ) (s : Standing) (outcome : Outcome) (s' : Standing) : Type 0 where
  pub ended : Outcome
  pub stats : Stats
  pub ends : EndsAs ended outcome
  pub read_fault : ended ≡ outcomes.ReadFault → Rose s.reads_failed s'.reads_failed
  pub counts : IfSome s.files (λ files. IfSome (get files name) (λ file. (ended ≡ outcomes.ReadFault → s.given ≤ 2 ^ 63) → Counts (seen_in file (s'.given - s.given) ended) stats ended))
  pub absent : IfSome s.files (λ files. get files name ≡ None → (stats ≡ no_stats) × IsTrue (is_missing_or_read_fault ended))
  pub writes : WritesAs outcome s.taken s'.taken (text_after ended name stats)

-- The statistics of one database were written and passed on. No path was found, and the gate was not asked.
pub record TriedCount (name : List ℕ) (s : Standing) (outcome : Outcome) (s' : Standing) : Type 0 where
  pub moves : Moves s outcome s'
  pub missing : IfSome s.files (λ files. outcome ≡ outcomes.Missing → get files name ≡ None)
  pub absent : IfSome s.files (λ files. get files name ≡ None → IsMissingOrFailed outcome)
  pub reads : IfSome s.files (λ files. ReadsIn (get files name) s.given s'.given outcome)
  pub counted : CountsText name s outcome s'
  pub reading : IsTrue (ends_reading outcome) ⊎ (outcome ≡ outcomes.WriteFault)
  pub unread : outcome ≡ outcomes.Missing → s'.given ≡ s.given
  pub matched : s'.matched ≡ s.matched
  pub asks : s'.asks ≡ s.asks
  pub gate : s'.gate_failed ≡ s.gate_failed

-- what was done with one database
abbrev pub Tried : Work → Query → List ℕ → Standing → Outcome → Standing → Type 0
Tried (Search sought) query name s outcome s' = TriedSearch sought query name s outcome s'
Tried Statistics query name s outcome s' = TriedCount name s outcome s'

-- the work of a program that looks for this
abbrev pub work_for : WorkAsked → Sought → Work
work_for works.Search sought = Search sought
work_for works.Statistics sought = Statistics
