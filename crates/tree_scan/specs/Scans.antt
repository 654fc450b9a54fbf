-- What a scan does.
use Rattle.std.specs.Prelude.{◌≡◌, ℕ, ◌+◌, ◌^◌, ◌≤◌, ◌<◌, ◌⊎◌, Bool, List, length, Option, Some, None, IsTrue, take}
use Rattle.std.specs.FinMap.{get, entries}
use Rattle.std.specs.Io.KnownBytes.{Appends}
use Rattle.path_order.specs.Stamp.{Moment}
use Rattle.loc_outside.specs.Causes.{Rose}
use Rattle.loc_outside.specs.Outside.{AppendsPart}
use Rattle.loc_outside.specs.Trees.{Dirs}
use Rattle.tree_scan.specs.declared.rules.Counts.{Counts}
use Rattle.tree_scan.specs.declared.rules.Limits.{Limits}
use Rattle.tree_scan.specs.declared.rules.ScanFault.{ScanFault}
use Rattle.tree_scan.specs.declared.rules.ScanFault.TheVariants.{RootMissing, TreeFault, TooManyNames, TooManyDirectories}
use Rattle.tree_scan.specs.Blocks.{scan_text, scan_pieces, echo_text, entries_of}
use Rattle.tree_scan.specs.Plan.{Plan}
use Rattle.tree_scan.specs.Reach.{reached, tried}
use Rattle.tree_scan.specs.Records.{Honest, Record, known, unvouched}
use Rattle.tree_scan.specs.Steps.{priced_candidates}
use Rattle.tree_scan.specs.Stops.{HasWide, LinesFollow, ListsMore, Narrow, StopsAt, StopsAtWide, StopsWide, Taken, Whole, WroteBlocks, shown_of}

-- the limits of a usual run
abbrev pub usual : Limits
usual = record { names = 16777216; directories = 4294967295 }

-- What holds of the directories and of the records, where the tree tells its directories and the voucher's records are
-- honest of them.
abbrev pub WhereKnown : Option Dirs → Option (List Record) → Plan → (Dirs → List Record → Type 0) → Type 0
WhereKnown told records plan holds = (dirs : Dirs) → told ≡ Some dirs → Honest records dirs plan → holds dirs (known records)

-- A complete scan: the path of each entry was echoed, and each block and each entry counted. Where the voucher answered
-- from all of its records, the tried directories that none vouches for were opened, each once, and no other. No limit was
-- passed.
pub record Completed (limits : Limits) (records : List Record) (all : Bool) (dirs : Dirs) (plan : Plan) (counts : Counts) (echo echo' : Option (List ℕ)) (openings openings' : ℕ) : Type 0 where
  pub echoed : Appends echo echo' (echo_text dirs plan)
  pub blocks : counts.directories ≡ length (reached dirs plan.pruned plan.root)
  pub entries : counts.entries ≡ length (entries_of (reached dirs plan.pruned plan.root))
  pub opened_once : IsTrue all → openings ≤ 2 ^ 63 → openings' ≡ openings + length (unvouched records plan (tried dirs plan.pruned plan.root))
  pub few : length (tried dirs plan.pruned plan.root) ≤ limits.directories
  pub narrow : Narrow limits.names (unvouched records plan (reached dirs plan.pruned plan.root))

-- How much was asked of the tree: directories were opened at most as often as they are tried, and, where the voucher
-- answered from all of its records, as often as none vouches for them; times of directories were asked for as often as
-- there are candidates that have a price.
pub record AskedOf (records : List Record) (all : Bool) (dirs : Dirs) (plan : Plan) (priced : List ℕ → Bool) (openings openings' times times' : ℕ) : Type 0 where
  pub opened : openings' ≤ openings + length (tried dirs plan.pruned plan.root)
  pub unvouched_alone : IsTrue all → openings' ≤ openings + length (unvouched records plan (tried dirs plan.pruned plan.root))
  pub stats : times' ≤ times + priced_candidates dirs plan.pruned priced plan.root

-- a first part of the scan was written, and a first part of its lines echoed, none before its entry
pub record WrotePart (dirs : Dirs) (plan : Plan) (now : Moment) (old new : Taken) : Type 0 where
  pub text : AppendsPart old.sink new.sink (scan_text dirs plan now)
  pub lines_part : AppendsPart old.echo new.echo (echo_text dirs plan)
  pub follows : LinesFollow (scan_pieces dirs plan now) old new

-- Where a scan stopped that ended with this fault. After a fault of the tree and after a limit was passed, what was written
-- is nothing, or the header and the blocks of the directories before one that was looked up.
pub record StoppedAt (fault : ScanFault) (limits : Limits) (records : List Record) (all : Bool) (now : Moment) (dirs : Dirs) (plan : Plan) (old new : Taken) : Type 0 where
  pub whole_tree : fault ≡ TreeFault → Whole dirs plan now old new
  pub stops : fault ≡ TreeFault → StopsAt records limits dirs plan now old new
  pub whole_names : fault ≡ TooManyNames → StopsAtWide dirs plan now limits.names old new
  pub stops_wide : fault ≡ TooManyNames → StopsWide records limits all dirs plan now old new
  pub whole_directories : fault ≡ TooManyDirectories → WroteBlocks plan now (shown_of (take limits.directories (tried dirs plan.pruned plan.root))) old new
  pub stops_full : fault ≡ TooManyDirectories → StopsAt records limits dirs plan now old new

-- what a scan has done that ended with this fault
pub record Stopped (fault : ScanFault) (limits : Limits) (records : List Record) (all : Bool) (now : Moment) (dirs : Dirs) (plan : Plan) (old new : Taken) : Type 0 where
  pub wrote : WrotePart dirs plan now old new
  pub at : StoppedAt fault limits records all now dirs plan old new

-- What the directories lack or have that a fault tells of: the root; a directory of too many names; too many directories.
pub record Found (fault : ScanFault) (limits : Limits) (root : List ℕ) (dirs : Dirs) : Type 0 where
  pub missing : fault ≡ RootMissing → get dirs root ≡ None
  pub wide_there : fault ≡ TooManyNames → ListsMore dirs limits.names
  pub many_there : fault ≡ TooManyDirectories → limits.directories < length (entries dirs)

-- The limit that a fault tells of was passed by what the plan comes to.
pub record Exceeded (fault : ScanFault) (limits : Limits) (records : List Record) (all : Bool) (dirs : Dirs) (plan : Plan) : Type 0 where
  pub wide_reached : fault ≡ TooManyNames → IsTrue all → HasWide limits.names (unvouched records plan (reached dirs plan.pruned plan.root))
  pub many_tried : fault ≡ TooManyDirectories → limits.directories < length (tried dirs plan.pruned plan.root)

-- How often calls on the tree, on the sink and on the echo have failed: no count has fallen, and that of which a fault
-- tells has risen.
pub record Failures (verbose : Bool) (of_tree of_write : Type 0) (tree tree' sink sink' echo echo' : ℕ) : Type 0 where
  pub tree_later : tree ≤ tree'
  pub sink_later : sink ≤ sink'
  pub echo_later : echo ≤ echo'
  pub tree_fault : of_tree → Rose tree tree'
  pub write_fault : of_write → Rose sink sink' ⊎ IsTrue verbose × Rose echo echo'
