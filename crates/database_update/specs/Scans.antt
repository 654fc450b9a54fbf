-- What the scan of an update has done, of directories, a plan and old records that are known.
use Rattle.std.specs.Prelude.{◌≡◌, ◌⊎◌, ℕ, Bool, List, Option}
use Rattle.path_order.specs.Stamp.{Moment}
use Rattle.loc_outside.specs.Held.{Held}
use Rattle.loc_outside.specs.Outside.{AppendsPart}
use Rattle.loc_outside.specs.Trees.{Dirs}
use Rattle.tree_scan.specs.declared.rules.ScanFault.{ScanFault}
use Rattle.tree_scan.specs.Blocks.{echo_text, scan_text}
use Rattle.tree_scan.specs.Plan.{Plan}
use Rattle.tree_scan.specs.Records.{Record}
use Rattle.tree_scan.specs.Scans.{Exceeded, Found, StoppedAt, WrotePart, usual}
use Rattle.tree_scan.specs.Stops.{Taken, taken}
use Rattle.database_update.specs.declared.fault.UpdateFault.{UpdateFault}
use Rattle.database_update.specs.Faults.{fault_of}
use Rattle.database_update.specs.Holding.{LeavesHeld, none_pending, pending_in}

-- what holds of the scan's fault that this fault of an update answers, if there is one
abbrev pub OfScan : UpdateFault → (ScanFault → Type 0) → Type 0
OfScan fault holds = (f : ScanFault) → fault ≡ fault_of f → holds f

-- where the scan stopped that ended with this fault; `all` says whether all records were answered from
abbrev pub ScanStopped : UpdateFault → List Record → Bool → Moment → Dirs → Plan → Taken → Taken → Type 0
ScanStopped fault records all now dirs plan old new = OfScan fault (λ f. StoppedAt f usual records all now dirs plan old new)

-- what the directories lack or have that this fault tells of
abbrev pub ScanFound : UpdateFault → List ℕ → Dirs → Type 0
ScanFound fault root dirs = OfScan fault (λ f. Found f usual root dirs)

-- the limit that this fault tells of was passed by what the plan comes to
abbrev pub ScanExceeded : UpdateFault → List Record → Bool → Dirs → Plan → Type 0
ScanExceeded fault records all dirs plan = OfScan fault (λ f. Exceeded f usual records all dirs plan)

-- What a fault leaves pending and has echoed, in an output in which this name is begun for the scan: a first part of the
-- scan, and of its lines none before its entry. `same` says that nothing was done to what lines are echoed to.
pub record Left (fault : UpdateFault) (records : List Record) (all : Bool) (name : List ℕ) (now : Moment) (dirs : Dirs) (plan : Plan) (held held' : Option Held) (echo echo' : Option (List ℕ)) (same : Type 0) : Type 0 where
  pub leaves : LeavesHeld fault name (scan_text dirs plan now) held held'
  pub echo_part : AppendsPart echo echo' (echo_text dirs plan)
  pub wrote : (held' ≡ held) × same ⊎ WrotePart dirs plan now (taken (none_pending held) echo) (taken (pending_in held') echo')
  pub stopped : ScanStopped fault records all now dirs plan (taken (none_pending held) echo) (taken (pending_in held') echo')
