-- What an update does.
use Rattle.std.specs.Prelude.{◌≡◌, ℕ, ◌+◌, ◌≤◌, ◌⊎◌, Bool, false, List, [], length, Option, Some, None, Result, option_map, IfErr, IsErrAnd, IsOkUnless, IsOk, IsSome, IsTrue, IsErrOf, IfOk, Ok, Err}
use Rattle.std.specs.FinMap.{get}
use Rattle.path_order.specs.Stamp.{Moment}
use Rattle.loc_outside.specs.Causes.{Rose, raised}
use Rattle.loc_outside.specs.Files.{Files}
use Rattle.loc_outside.specs.Held.{Held}
use Rattle.loc_outside.specs.Trees.{Dirs}
use Rattle.tool_words.specs.Updatedb.{UpdatedbAsked}
use Rattle.tree_scan.specs.declared.rules.Counts.{Counts}
use Rattle.tree_scan.specs.Blocks.{scan_text}
use Rattle.tree_scan.specs.Plan.{Plan}
use Rattle.tree_scan.specs.Reach.{reached, tried}
use Rattle.tree_scan.specs.Records.{unvouched}
use Rattle.tree_scan.specs.Stops.{Narrow}
use Rattle.database_update.specs.declared.settings_file.SettingsFile.{SettingsFile}
use Rattle.database_update.specs.declared.settings_file.SettingsFile.TheVariants.{Configuration, Mounts}
use Rattle.database_update.specs.declared.fault.UpdateFault.{UpdateFault}
use Rattle.database_update.specs.declared.fault.UpdateFault.TheVariants.{OutOfMemory, ReadFault, RootMissing, TreeFault, WriteFault}
use Rattle.database_update.specs.Faults.{hides_memory, is_early, is_from_outside, is_refusal}
use Rattle.database_update.specs.Holding.{Begins, stored_in, with_file, with_pending}
use Rattle.tree_scan.specs.Scans.{AskedOf, Completed, Failures, usual}
use Rattle.database_update.specs.OldDatabase.{WhereHonest, header_most, is_foreign, is_reused_whole, old_in, old_records, old_size}
use Rattle.database_update.specs.Scans.{Left, ScanExceeded, ScanFound}
use Rattle.database_update.specs.Settings.{WherePlanned, conf_in, plan_in}
use Rattle.database_update.specs.SettingsFiles.{both_read, name_of, read_most}

-- What an update sees of the outside: the reader, the tree, the output, and what lines are echoed to.
pub record Around : Type 0 where
  pub files : Option Files
  pub given : ℕ
  pub reads_failed : ℕ
  pub dirs : Option Dirs
  pub openings : ℕ
  pub stats : ℕ
  pub priced : List ℕ → Bool
  pub tree_failed : ℕ
  pub held : Option Held
  pub begins : ℕ
  pub output_failed : ℕ
  pub taken : Option (List ℕ)
  pub held_back : ℕ
  pub writes_failed : ℕ

-- Three propositions: that the tree, the output and the echo are unchanged.
pub record Same : Type 1 where
  pub tree : Type 0
  pub output : Type 0
  pub out : Type 0

abbrev pub Untouched : Same → Type 0
Untouched same = same.tree × same.output × same.out

-- what holds of the directories and of the plan of the scan, where both are known and the settings are accepted
abbrev pub Planned : UpdatedbAsked → Around → (Dirs → Plan → Type 0) → Type 0
Planned asked a holds = WherePlanned a.files a.dirs asked holds

-- the same, and of the old database besides, where its records are honest
abbrev pub Reused : UpdatedbAsked → Around → (Dirs → Plan → Option (List ℕ) → Type 0) → Type 0
Reused asked a holds = WhereHonest a.files a.dirs asked holds

-- whether all records of the old database were answered from, between these
abbrev pub all_of : Option (List ℕ) → Plan → Around → Around → Bool
all_of old plan a a' = is_reused_whole old plan a.reads_failed a'.reads_failed

-- No call on the tree or on the output failed, nor on what lines are echoed to.
pub record NothingFailed (verbose : Bool) (a a' : Around) : Type 0 where
  pub trees : Rose a.tree_failed a'.tree_failed → ⊥
  pub outputs : Rose a.output_failed a'.output_failed → ⊥
  pub writes : IsTrue verbose → Rose a.writes_failed a'.writes_failed → ⊥

-- After Ok: the stored files are those at entry, with the complete scan under the name of the output, whatever the old
-- database is, if its records are honest; with `verbose`, all that was echoed has gone out; no other name was begun; both
-- settings files were read whole.
pub record Stored (asked : UpdatedbAsked) (now : Moment) (counts : Counts) (a a' : Around) : Type 0 where
  pub accepted : (files : Files) → a.files ≡ Some files → IsOk (plan_in files asked)
  pub stored : Reused asked a (λ dirs plan old. a'.held ≡ option_map (with_file asked.output (scan_text dirs plan now)) a.held)
  pub completed : Reused asked a (λ dirs plan old. Completed usual (old_records old plan) (all_of old plan a a') dirs plan counts a.taken a'.taken a.openings a'.openings)
  pub passed_on : IsTrue asked.verbose → a'.held_back ≡ 0
  pub begun_once : a'.begins ≡ raised a.begins 1
  pub read_least : (files : Files) → a.files ≡ Some files → raised a.given (both_read files) ≤ a'.given

-- After a fault: the stored files are as they were, and a first part of the scan is pending, as far as it came; no other
-- name was begun; nothing was done before the settings were accepted, and of the old database nothing was read. Where the
-- root is missing, of the old database the header alone was read, unless a read failed.
pub record AfterFault (asked : UpdatedbAsked) (now : Moment) (a a' : Around) (same : Same) (fault : UpdateFault) : Type 0 where
  pub unstored : stored_in a'.held ≡ stored_in a.held
  pub left : Reused asked a (λ dirs plan old. Left fault (old_records old plan) (all_of old plan a a') asked.output now dirs plan a.held a'.held a.taken a'.taken same.out)
  pub unwritten : Planned asked a (λ dirs plan. fault ≡ WriteFault → get dirs plan.root ≡ None → (a'.held ≡ a.held) × same.out)
  pub begins : Begins fault a.begins a'.begins
  pub early : IsTrue (is_early fault) → Untouched same
  pub empty : fault ≡ RootMissing → (a'.held ≡ option_map (with_pending asked.output []) a.held) × same.out
  pub settings_alone : IsTrue (is_early fault) → a'.given ≤ a.given + 17825794
  pub settings_read : IsTrue (is_early fault) → (files : Files) → a.files ≡ Some files → a'.given ≤ a.given + both_read files
  pub header_alone : fault ≡ RootMissing → (Rose a.reads_failed a'.reads_failed → ⊥) → (files : Files) → a.files ≡ Some files → a'.given ≤ a.given + both_read files + header_most (old_in files asked)

-- When each fault comes; of failed calls on the tree and of failed writes see `Failures`. Lack of memory is never reported as
-- a refusal of the settings, and a failed read of the old database is no fault.
pub record Caused (asked : UpdatedbAsked) (a a' : Around) (fault : UpdateFault) : Type 0 where
  pub refused : IsTrue (is_refusal fault) → (files : Files) → a.files ≡ Some files → plan_in files asked ≡ Err fault
  pub memory : hides_memory fault ≡ false
  pub read_fault : (file : SettingsFile) → fault ≡ ReadFault file → Rose a.reads_failed a'.reads_failed
  pub in_hand : fault ≡ ReadFault Mounts → (files : Files) → a.files ≡ Some files → IsOk (conf_in files asked)
  pub found : (dirs : Dirs) → a.dirs ≡ Some dirs → ScanFound fault asked.root dirs
  pub exceeded : Reused asked a (λ dirs plan old. ScanExceeded fault (old_records old plan) (all_of old plan a a') dirs plan)

-- Which results are required: a refusal where the settings are refused, RootMissing where there is no root, unless a call
-- failed or memory ran out; Ok where nothing is refused, no call failed and no limit is passed, unless memory ran out. Where
-- all records of the old database were answered from, a directory that one vouches for passes no limit. Where a read failed,
-- the fault of a settings file may come as well.
pub record Required (asked : UpdatedbAsked) (a a' : Around) (result : Result Counts UpdateFault) : Type 0 where
  pub refuses : (files : Files) (fault : UpdateFault) → a.files ≡ Some files → plan_in files asked ≡ Err fault
      → IsErrAnd result (λ e. (e ≡ fault) ⊎ ((e ≡ OutOfMemory) ⊎ ((e ≡ ReadFault Configuration) ⊎ (e ≡ ReadFault Mounts))))
  pub lacking : Planned asked a (λ dirs plan. get dirs plan.root ≡ None → IsErrAnd result (λ fault. (fault ≡ RootMissing) ⊎ IsTrue (is_from_outside fault)))
  pub complete : Reused asked a (λ dirs plan old. IsSome (get dirs plan.root) → Narrow 16777216 (reached dirs plan.pruned plan.root) → length (tried dirs plan.pruned plan.root) ≤ 4294967295
      → NothingFailed plan.verbose a a' → (Rose a.reads_failed a'.reads_failed → ⊥) → IsOkUnless result OutOfMemory)
  pub complete_reused : Reused asked a (λ dirs plan old. IsSome (get dirs plan.root) → Narrow 16777216 (unvouched (old_records old plan) plan (reached dirs plan.pruned plan.root)) → length (tried dirs plan.pruned plan.root) ≤ 4294967295
      → NothingFailed plan.verbose a a' → (Rose a.reads_failed a'.reads_failed → ⊥) → IsTrue (all_of old plan a a') → IsOkUnless result OutOfMemory)
  pub complete_unread : Reused asked a (λ dirs plan old. IsSome (get dirs plan.root) → Narrow 16777216 (reached dirs plan.pruned plan.root) → length (tried dirs plan.pruned plan.root) ≤ 4294967295
      → NothingFailed plan.verbose a a' → IfErr result (λ e. (e ≡ OutOfMemory) ⊎ ((e ≡ ReadFault Configuration) ⊎ (e ≡ ReadFault Mounts))))

-- What holds on every answer: what is as it was where the settings are refused or nothing is to be echoed, that what was
-- echoed has gone out unless that failed, and how much was asked of the reader and of the tree. The old database is read
-- once at most, and no further than its header where that has another root or configuration block, unless a read failed.
pub record Bounded (asked : UpdatedbAsked) (a a' : Around) (same : Same) : Type 0 where
  pub unready : (files : Files) (fault : UpdateFault) → a.files ≡ Some files → plan_in files asked ≡ Err fault → Untouched same
  pub quiet : asked.verbose ≡ false → same.out
  pub passed_on : (Rose a.writes_failed a'.writes_failed → ⊥) → a.held_back ≡ 0 → a'.held_back ≡ 0
  pub given_most : (files : Files) → a.files ≡ Some files → a'.given ≤ a.given + both_read files + old_size (old_in files asked)
  pub foreign_read : (files : Files) (plan : Plan) → a.files ≡ Some files → plan_in files asked ≡ Ok plan → IsTrue (is_foreign (old_in files asked) plan) → (Rose a.reads_failed a'.reads_failed → ⊥)
      → a'.given ≤ a.given + both_read files + header_most (old_in files asked)
  pub conf_alone : (files : Files) (fault : UpdateFault) → a.files ≡ Some files → conf_in files asked ≡ Err fault → a'.given ≤ a.given + read_most Configuration (get files (name_of Configuration))
  pub refused_read : (files : Files) (fault : UpdateFault) → a.files ≡ Some files → plan_in files asked ≡ Err fault → a'.given ≤ a.given + both_read files
  pub asked_of : Reused asked a (λ dirs plan old. AskedOf (old_records old plan) (all_of old plan a a') dirs plan a.priced a.openings a'.openings a.stats a'.stats)
  pub openings : a'.openings ≤ a.openings + 4294967295
  pub reads_later : a.reads_failed ≤ a'.reads_failed

-- What an update does that gives this answer: what it has stored or a fault has left, when each answer comes, and what
-- holds of all.
pub record UpdateDoes (asked : UpdatedbAsked) (now : Moment) (a a' : Around) (same : Same) (result : Result Counts UpdateFault) : Type 0 where
  pub stored : IfOk result (λ counts. Stored asked now counts a a')
  pub after_fault : IfErr result (λ fault. AfterFault asked now a a' same fault)
  pub caused : IfErr result (λ fault. Caused asked a a' fault)
  pub required : Required asked a a' result
  pub failures : Failures asked.verbose (IsErrOf result TreeFault) (IsErrOf result WriteFault) a.tree_failed a'.tree_failed a.output_failed a'.output_failed a.writes_failed a'.writes_failed
  pub bounded : Bounded asked a a' same
