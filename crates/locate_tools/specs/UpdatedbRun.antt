-- What a run of `updatedb` does.
use Rattle.std.specs.Prelude.{◌≡◌, Result, Ok, Err}
use Rattle.path_order.specs.Stamp.{Moment}
use Rattle.loc_outside.specs.Snapshot.{Snapshot}
use Rattle.tool_words.specs.Updatedb.{UpdatedbAsked}
use Rattle.tree_scan.specs.declared.rules.Counts.{Counts}
use Rattle.database_update.specs.Updates.{Around, Same, UpdateDoes}
use Rattle.database_update.specs.declared.fault.UpdateFault.{UpdateFault}
use Rattle.database_update.specs.declared.fault.UpdateFault.TheVariants as faults
use Rattle.locate_tools.specs.declared.answer.NeededFile.TheVariants.{Settings}
use Rattle.locate_tools.specs.declared.answer.Cause.{Cause}
use Rattle.locate_tools.specs.declared.answer.Cause.TheVariants as causes

-- why a run ends whose update ended with this fault
abbrev pub cause_of : UpdateFault → Cause
cause_of (faults.BadConf line cause) = causes.BadConf line cause
cause_of (faults.BadMount line cause) = causes.BadMount line cause
cause_of (faults.ReadFault file) = causes.ReadFault (Settings file)
cause_of faults.RootMissing = causes.RootMissing
cause_of faults.TreeFault = causes.TreeFault
cause_of faults.WriteFault = causes.WriteFault
cause_of faults.TooManyNames = causes.TooManyNames
cause_of faults.TooManyDirectories = causes.TooManyDirectories
cause_of faults.OutOfMemory = causes.OutOfMemory

-- why a run ends whose update gave this answer
abbrev pub cause_after : Result Counts UpdateFault → Cause
cause_after (Ok counts) = causes.Done
cause_after (Err fault) = cause_of fault

-- the part of a snapshot that an update sees: all but the gate and standard error
abbrev pub around_in : Snapshot → Around
around_in o = record {
  files = o.files;
  given = o.given;
  reads_failed = o.reads_failed;
  dirs = o.dirs;
  openings = o.openings;
  stats = o.stats;
  priced = o.priced;
  tree_failed = o.tree_failed;
  held = o.held;
  begins = o.begins;
  output_failed = o.output_failed;
  taken = o.taken;
  held_back = o.held_back;
  writes_failed = o.writes_failed;
}

-- that nothing was asked of the tree, that the output is as it was, and that nothing was written or passed on
abbrev pub same_in : Around → Around → Same
same_in a a' = record {
  tree = (a'.openings ≡ a.openings) × (a'.stats ≡ a.stats) × (a'.tree_failed ≡ a.tree_failed);
  output = (a'.held ≡ a.held) × (a'.begins ≡ a.begins) × (a'.output_failed ≡ a.output_failed);
  out = (a'.taken ≡ a.taken) × (a'.held_back ≡ a.held_back) × (a'.writes_failed ≡ a.writes_failed);
}

-- A run of `updatedb` that ended so: its update gave an answer of which that is the cause, and did what goes with it.
pub record UpdatedbRun (asked : UpdatedbAsked) (now : Moment) (a a' : Around) (cause : Cause) : Type 0 where
  pub result : Result Counts UpdateFault
  pub ended : cause ≡ cause_after result
  pub does : UpdateDoes asked now a a' (same_in a a') result
