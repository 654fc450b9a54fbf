-- One update, over an old database.
use Rattle.std.specs.Prelude.{◌≡◌, ◌≤◌, ◌⊎◌, ℕ, List, length, min, IsSome, IsTrue, Some, None}
use Rattle.std.specs.FinMap.{get}
use Rattle.path_order.specs.Stamp.{Moment}
use Rattle.loc_outside.specs.Causes.{last_count}
use Rattle.loc_outside.specs.Trees.{Dirs}
use Rattle.sample_trees.specs.declared.step.SampleStep.{SampleStep}
use Rattle.tree_scan.specs.Blocks.{scan_text}
use Rattle.tree_scan.specs.Plan.{Plan}
use Rattle.tree_scan.specs.Reach.{reached, tried}
use Rattle.tree_scan.specs.Records.{Honest, unvouched}
use Rattle.tree_scan.specs.Scans.{Exceeded, Found, usual}
use Rattle.tree_scan.specs.Stops.{Narrow}
use Rattle.dir_reuse.specs.Usable.{is_ordered, records}
use Rattle.update_runs.specs.declared.outcome.ListFault.{ListFault}
use Rattle.update_runs.specs.declared.outcome.ListFault.TheVariants as list
use Rattle.update_runs.specs.declared.single.StepCounts.{StepCounts}
use Rattle.update_runs.specs.Faults.{in_scan}

-- what an update leaves as it was in a step: its moment and the directories of its tree
abbrev pub shown_by : SampleStep → Moment × Dirs
shown_by step = (step.now, step.tree.dirs)

-- how often directories of a step's tree were opened, up to 2^64 - 1
abbrev pub openings_in : SampleStep → ℕ
openings_in step = min step.tree.openings last_count

-- the database that the update of a step makes: the complete scan of its tree
abbrev pub scan_of : Plan → SampleStep → List ℕ
scan_of plan step = scan_text step.tree.dirs plan step.now

-- the records of an old database can be relied on in these directories
abbrev pub IsHonest : Plan → List ℕ → Dirs → Type 0
IsHonest plan old dirs = Honest (Some (records plan.root plan.block old)) dirs plan

-- how many directories an update has to open: those that are tried and that no record of the old database vouches for
abbrev pub opened_in : Plan → List ℕ → Dirs → ℕ
opened_in plan old dirs = length (unvouched (records plan.root plan.block old) plan (tried dirs plan.pruned plan.root))

-- The root is there, and no limit is passed.
pub record Passes (plan : Plan) (old : List ℕ) (dirs : Dirs) : Type 0 where
  pub root_there : IsSome (get dirs plan.root)
  pub few : length (tried dirs plan.pruned plan.root) ≤ 4294967295
  pub narrow : Narrow 16777216 (unvouched (records plan.root plan.block old) plan (reached dirs plan.pruned plan.root))

-- What a fault tells: the root is missing, or a limit is passed; that memory ran out tells nothing. That too many names are listed
-- where no record vouches is known only if the old database is in order. A missing root is told, unless memory runs out.
pub record Refuses (plan : Plan) (old : List ℕ) (dirs : Dirs) (fault : ListFault) : Type 0 where
  pub found : Found (in_scan fault) usual plan.root dirs
  pub lacking : get dirs plan.root ≡ None → (fault ≡ list.RootMissing) ⊎ (fault ≡ list.OutOfMemory)
  pub exceeded : Exceeded (in_scan fault) usual (records plan.root plan.block old) (is_ordered plan.root plan.block old) dirs plan

-- What an update has done that was not refused, with these counts and this database.
pub record Updates (plan : Plan) (old : List ℕ) (step : SampleStep) (counts : StepCounts) (made : List ℕ) : Type 0 where
  pub passes : Passes plan old step.tree.dirs
  pub scanned : made ≡ scan_of plan step
  pub directories : counts.directories ≡ length (reached step.tree.dirs plan.pruned plan.root)
  pub opened : IsTrue (is_ordered plan.root plan.block old) → counts.opened ≡ opened_in plan old step.tree.dirs
