-- A list of updates, each over the database that the one before has made.
use Rattle.std.specs.Prelude.{◌≡◌, ◌≤◌, ◌+◌, ◌^◌, ◌⊎◌, ℕ, Any, List, [], ◌∷◌, length, map, IsTrue, ⊤}
use Rattle.std.specs.List.{sum_by}
use Rattle.loc_outside.specs.Trees.{Dirs}
use Rattle.sample_trees.specs.declared.step.SampleStep.{SampleStep}
use Rattle.tree_scan.specs.Plan.{Plan}
use Rattle.tree_scan.specs.Reach.{reached}
use Rattle.tree_scan.specs.Scans.{Found, usual}
use Rattle.dir_reuse.specs.Usable.{is_ordered}
use Rattle.update_runs.specs.declared.outcome.ListFault.{ListFault}
use Rattle.update_runs.specs.declared.outcome.ListFault.TheVariants.{OutOfMemory}
use Rattle.update_runs.specs.declared.outcome.ListResult.{ListResult}
use Rattle.update_runs.specs.Faults.{in_scan}
use Rattle.update_runs.specs.Single.{IsHonest, Passes, Refuses, opened_in, openings_in, scan_of, shown_by}

-- a step in whose tree no call is set to fail, and directories were opened at most 2^63 times so far
pub record IsReady (step : SampleStep) : Type 0 where
  pub steady : step.tree.failures.due ≡ []
  pub openings : step.tree.openings ≤ 2 ^ 63

-- In each step the records of the database before can be relied on: a tried directory that still bears the time, not zero, of one
-- of its records, and the device where the record has one, shows the names of that record. Before the first step that database is
-- the given one, then the scan of the step before.
abbrev pub Kept : Plan → List ℕ → List SampleStep → Type 0
Kept plan old [] = ⊤
Kept plan old (step ∷ steps) = IsHonest plan old step.tree.dirs × Kept plan (scan_of plan step) steps

-- the database after all steps: the complete scan of the last tree, or the given one if there is no step
abbrev pub last_database : Plan → List ℕ → List SampleStep → List ℕ
last_database plan old [] = old
last_database plan old (step ∷ steps) = last_database plan (scan_of plan step) steps

-- how many directories are reached in the last step, or the given number if there is no step
abbrev pub last_reached : Plan → ℕ → List SampleStep → ℕ
last_reached plan count [] = count
last_reached plan count (step ∷ steps) = last_reached plan (length (reached step.tree.dirs plan.pruned plan.root)) steps

-- how many openings all steps need: in each step one for each tried directory that no record of the database before vouches for
abbrev pub opened_in_all : Plan → List ℕ → List SampleStep → ℕ
opened_in_all plan old [] = 0
opened_in_all plan old (step ∷ steps) = opened_in plan old step.tree.dirs + opened_in_all plan (scan_of plan step) steps

-- in each step the root is there, and no limit is passed
abbrev pub AllPass : Plan → List ℕ → List SampleStep → Type 0
AllPass plan old [] = ⊤
AllPass plan old (step ∷ steps) = Passes plan old step.tree.dirs × AllPass plan (scan_of plan step) steps

-- One step is refused with this fault, and all before it have passed, as far as the old databases can be relied on. After the last
-- step only memory can have run out.
abbrev pub StopsAt : ListFault → Plan → List ℕ → List SampleStep → Type 0
StopsAt fault plan old [] = fault ≡ OutOfMemory
StopsAt fault plan old (step ∷ steps) = IsHonest plan old step.tree.dirs
    → Refuses plan old step.tree.dirs fault ⊎ (Passes plan old step.tree.dirs × StopsAt fault plan (scan_of plan step) steps)

-- Memory ran out, or one of these trees is as the fault tells: it has no root, a directory that shows more names than the limit, or
-- more directories than the limit.
abbrev pub IsSeen : ListFault → List ℕ → List Dirs → Type 0
IsSeen fault root trees = (fault ≡ OutOfMemory) ⊎ Any (Found (in_scan fault) usual root) trees

-- the trees of steps
abbrev pub trees_of : List SampleStep → List Dirs
trees_of steps = map (λ step. step.tree.dirs) steps

-- how often directories of these steps' trees were opened
abbrev pub openings_of : List SampleStep → ℕ
openings_of steps = sum_by openings_in steps

-- What a list of updates does with its steps: moments and directories stay, and, if the old databases can be relied on and the first
-- is in order, no more directories are opened than all steps need.
pub record Asks (plan : Plan) (start : List ℕ) (steps steps' : List SampleStep) : Type 0 where
  pub same : map shown_by steps' ≡ map shown_by steps
  pub opened : Kept plan start steps → IsTrue (is_ordered plan.root plan.block start) → openings_of steps' ≤ openings_of steps + opened_in_all plan start steps

-- What a list of updates comes to: the last database, the directories reached in the last step, and the openings, where the
-- database before the first step is in order; and that all steps have passed.
pub record Comes (plan : Plan) (start : List ℕ) (steps : List SampleStep) (list : ListResult) : Type 0 where
  pub bytes : list.bytes ≡ last_database plan start steps
  pub directories : list.directories ≡ last_reached plan 0 steps
  pub openings : IsTrue (is_ordered plan.root plan.block start) → list.openings ≡ opened_in_all plan start steps
  pub passed : AllPass plan start steps
