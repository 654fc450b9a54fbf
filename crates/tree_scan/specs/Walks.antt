-- How a walk stands, and what a directory adds to it.
use Rattle.std.specs.Prelude.{IsTrue, IsSome, if◌then◌else◌, ◌≡◌, ◌≤◌, ◌<◌, ◌*◌, ℕ, ◌+◌, Bool, true, false, List, ◌++◌, length, flat_map, Option, Some}
use Rattle.std.specs.FinMap.{get, entries}
use Rattle.std.specs.Io.KnownBytes.{Appends}
use Rattle.path_order.specs.NameList.{Listed}
use Rattle.path_order.specs.Stamp.{Moment}
use Rattle.loc_outside.specs.Causes.{raised}
use Rattle.loc_outside.specs.Outside.{AppendsPart}
use Rattle.loc_outside.specs.Trees.{Dir, Dirs}
use Rattle.tree_scan.specs.declared.progress.Progress.{Progress}
use Rattle.tree_scan.specs.declared.rules.ScanFault.{ScanFault}
use Rattle.tree_scan.specs.declared.rules.ScanFault.TheVariants.{RootMissing, TreeFault, WriteFault, TooManyNames, TooManyDirectories, OutOfMemory}
use Rattle.tree_scan.specs.Admitted.{paths_in}
use Rattle.tree_scan.specs.Blocks.{block, time_of, entries_of, lines, pieces}
use Rattle.tree_scan.specs.Plan.{Plan}
use Rattle.tree_scan.specs.Reach.{is_open, is_tried}
use Rattle.tree_scan.specs.Records.{Record, Fitting, Leaves, is_vouched, known, unvouched}
use Rattle.tree_scan.specs.Steps.{here, next}
use Rattle.tree_scan.specs.Stops.{LinesFollow, NamesMore, Narrow, Taken}

-- what the sink and the echo have taken, where they tell it, and the progress
pub record Standing : Type 0 where
  pub taken : Option (List ℕ)
  pub echoed : Option (List ℕ)
  pub progress : Progress

abbrev pub standing : Option (List ℕ) → Option (List ℕ) → Progress → Standing
standing taken echoed progress = record { taken = taken; echoed = echoed; progress = progress }

-- there are no more blocks than directories that were tried, and no more entries than those may have
pub record Counted (progress : Progress) : Type 0 where
  pub blocks : progress.counts.directories ≤ progress.tried
  pub entries : progress.counts.entries ≤ 16777216 * progress.tried

-- the directories at this place were written, echoed and counted, and those that they name are pending
pub record Passes (dirs : Dirs) (plan : Plan) (now : Moment) (path : List ℕ) (old new : Standing) : Type 0 where
  pub taken : Appends old.taken new.taken (flat_map (block plan now) (here dirs (is_open plan.pruned) path))
  pub echoed : Appends old.echoed new.echoed (flat_map (lines plan) (here dirs (is_open plan.pruned) path))
  pub pending : new.progress.pending ≡ next dirs plan.pruned path ++ old.progress.pending
  pub tried : new.progress.tried ≡ old.progress.tried + length (here dirs (is_tried plan.pruned) path)
  pub blocks : new.progress.counts.directories ≡ old.progress.counts.directories + length (here dirs (is_open plan.pruned) path)
  pub entries : new.progress.counts.entries ≡ old.progress.counts.entries + length (entries_of (here dirs (is_open plan.pruned) path))

-- a first part of that was written and echoed, and no line before its entry
pub record Breaks (dirs : Dirs) (plan : Plan) (now : Moment) (path : List ℕ) (old new : Taken) : Type 0 where
  pub written : AppendsPart old.sink new.sink (flat_map (block plan now) (here dirs (is_open plan.pruned) path))
  pub lined : AppendsPart old.echo new.echo (flat_map (lines plan) (here dirs (is_open plan.pruned) path))
  pub follows : LinesFollow (flat_map (pieces plan now) (here dirs (is_open plan.pruned) path)) old new

-- how many openings a directory is worth, if it is tried and no record vouches for it
abbrev pub opens : List Record → Dirs → Plan → List ℕ → ℕ
opens records dirs plan path = length (unvouched records plan (here dirs (is_tried plan.pruned) path))

-- What a question about a directory leaves of a voucher: its records, its order, and whether its reading is unbroken.
pub record LeavesVoucher (dir : List ℕ) (records : Option (List Record)) (ordered unbroken : Bool) (records' : Option (List Record)) (ordered' unbroken' : Bool) : Type 0 where
  pub left : Leaves dir records ordered records' unbroken'
  pub keeps_order : IsTrue ordered → IsTrue ordered'
  pub was_unbroken : IsTrue unbroken' → IsTrue unbroken

-- directories that fitting names name were put before the pending paths
pub record AddsChildren (path : List ℕ) (old new : List (List ℕ)) : Type 0 where
  pub names : Listed
  pub fitting : Fitting path names
  pub are : new ≡ paths_in path names ++ old

-- whether a scan that ended so has written whole blocks only
abbrev pub is_whole_after : ScanFault → Bool
is_whole_after RootMissing = true
is_whole_after TreeFault = true
is_whole_after WriteFault = false
is_whole_after TooManyNames = true
is_whole_after TooManyDirectories = true
is_whole_after OutOfMemory = true

-- How a directory changes the progress: those that it names are pending, before the others, at most 16,777,216 more for
-- each that was tried; and the counts keep in their bounds.
pub record Progresses (path : List ℕ) (old new : Progress) : Type 0 where
  pub more : length new.pending + 16777216 * old.tried ≤ length old.pending + 16777216 * new.tried
  pub rises : old.tried ≤ new.tried
  pub counted : Counted new
  pub adds : AddsChildren path old.pending new.pending

-- At most so many more were tried, and, where the voucher answered from all of its records, so many more opened.
pub record Costs (tries opens : ℕ) (all : Bool) (tried tried' openings openings' : ℕ) : Type 0 where
  pub seen : tried' ≤ tried + tries
  pub opened : IsTrue all → openings' ≤ openings + opens

-- No more are tried than the limit, and no more opened than tried.
pub record Bounded (limit tried tried' openings openings' : ℕ) : Type 0 where
  pub within : tried' ≤ limit
  pub openings_tried : openings' + tried ≤ openings + tried'

-- A directory's names were found: where the voucher answered from all of its records, it was opened if none vouches for
-- it, and else not; where none of known records vouches for it and it shows its names, they are no more than the limit.
pub record Finds (records : Option (List Record)) (all : Bool) (limit : ℕ) (told : Option Dirs) (path : List ℕ) (time : Moment) (device openings openings' : ℕ) : Type 0 where
  pub exact : IsTrue all → openings' ≡ raised openings (if is_vouched (known records) path time device then 0 else 1)
  pub kept_limit : IsSome records → (dirs : Dirs) (dir : Dir) → told ≡ Some dirs → get dirs path ≡ Some dir → is_vouched (known records) path time device ≡ false → dir.hidden ≡ false → length (entries dir.names) ≤ limit

-- the same of what is tried at a path
pub record FindsAt (records : Option (List Record)) (all : Bool) (limit : ℕ) (dirs : Dirs) (plan : Plan) (path : List ℕ) (openings openings' : ℕ) : Type 0 where
  pub exact : IsTrue all → openings' ≡ raised openings (opens (known records) dirs plan path)
  pub kept_limit : IsSome records → Narrow limit (unvouched (known records) plan (here dirs (is_open plan.pruned) path))

-- A directory shows more names than the limit; where the voucher answered from all of its records, none vouches for it.
pub record Wide (records : Option (List Record)) (all : Bool) (limit : ℕ) (told : Option Dirs) (path : List ℕ) (time : Moment) (device : ℕ) : Type 0 where
  pub listed : IsTrue all → is_vouched (known records) path time device ≡ false
  pub many_names : (dirs : Dirs) (dir : Dir) → told ≡ Some dirs → get dirs path ≡ Some dir → (dir.hidden ≡ false) × (limit < length (entries dir.names))

-- the same of what is at a path
pub record WideAt (records : Option (List Record)) (all : Bool) (limit : ℕ) (dirs : Dirs) (plan : Plan) (path : List ℕ) : Type 0 where
  pub listed : (dir : Dir) → get dirs path ≡ Some dir → IsTrue all → is_vouched (known records) path (time_of dir.times) (plan.device_of path) ≡ false
  pub many_names : NamesMore dirs plan.pruned limit path

-- What a fault tells: never that the root is missing; the directory is not pruned; but where a write failed, nothing of
-- its block was written; and the limit that the fault tells of was passed.
pub record Ended (fault : ScanFault) (plan : Plan) (path : List ℕ) (old new : Taken) (is_full is_wide : Type 0) : Type 0 where
  pub no_missing : fault ≡ RootMissing → ⊥
  pub unpruned : plan.pruned path ≡ false
  pub whole : IsTrue (is_whole_after fault) → (new.sink ≡ old.sink) × (new.echo ≡ old.echo)
  pub many : fault ≡ TooManyDirectories → is_full
  pub wide : fault ≡ TooManyNames → is_wide

-- the tree, the voucher, the sink and the echo each keep what they are
pub record AllKept (tree voucher sink echo : Type 0) : Type 0 where
  pub tree_kept : tree
  pub voucher_kept : voucher
  pub sink_kept : sink
  pub echo_kept : echo
