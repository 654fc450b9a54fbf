-- The old database: the file that has the output's name before an update, and what can be relied on in it.
use Rattle.std.specs.Prelude.{◌≡◌, ℕ, ◌+◌, Bool, true, not, ◌&&◌, List, [], length, min, nat_le, Option, Some, None, Ok}
use Rattle.std.specs.FinMap.{get}
use Rattle.std.specs.Option.{option_map_or}
use Rattle.loc_outside.specs.Causes.{last_count}
use Rattle.loc_outside.specs.Files.{Files}
use Rattle.loc_outside.specs.Trees.{Dirs}
use Rattle.mlocate_db.specs.Items.{HeaderItem}
use Rattle.tool_words.specs.Updatedb.{UpdatedbAsked}
use Rattle.tree_scan.specs.Plan.{Plan}
use Rattle.tree_scan.specs.Records.{Honest, Record}
use Rattle.dir_reuse.specs.Coming.{size}
use Rattle.dir_reuse.specs.Usable.{has_setup, header_of, is_ordered, records}
use Rattle.database_update.specs.Settings.{plan_in}

-- the file under the name of the output, if there is one
abbrev pub old_in : Files → UpdatedbAsked → Option (List ℕ)
old_in files asked = get files asked.output

-- how many bytes it has
abbrev pub old_size : Option (List ℕ) → ℕ
old_size None = 0
old_size (Some file) = length file

-- how many bytes of it may be read for its header: 4,096 past its end, or all where it does not begin with a whole one
abbrev pub header_most : Option (List ℕ) → ℕ
header_most None = 0
header_most (Some file) = option_map_or (λ header. size (HeaderItem header) + 4096) (header_of file) (length file)

-- whether its header has another root or configuration block than a plan, or it has no whole header
abbrev pub is_foreign : Option (List ℕ) → Plan → Bool
is_foreign None plan = true
is_foreign (Some file) plan = not (has_setup plan.root plan.block file)

-- its records for a plan: without a file there are none
abbrev pub old_records : Option (List ℕ) → Plan → List Record
old_records None plan = []
old_records (Some file) plan = records plan.root plan.block file

-- whether a count of faults rose, or stands at its last value
abbrev pub has_risen : ℕ → ℕ → Bool
has_risen before now = nat_le (min (before + 1) last_count) now

-- Whether all of its records were answered from: there is none, or the file is in order and the reader, whose faults these
-- are, did not fail.
abbrev pub is_reused_whole : Option (List ℕ) → Plan → ℕ → ℕ → Bool
is_reused_whole None plan faults faults' = true
is_reused_whole (Some file) plan faults faults' = is_ordered plan.root plan.block file && not (has_risen faults faults')

-- What holds of the directories, of the plan and of the old database, where they are known, the files give a plan, and the
-- records of the old database are honest.
abbrev pub WhereHonest : Option Files → Option Dirs → UpdatedbAsked → (Dirs → Plan → Option (List ℕ) → Type 0) → Type 0
WhereHonest files dirs asked holds =
    (f : Files) (d : Dirs) (plan : Plan) → files ≡ Some f → dirs ≡ Some d → plan_in f asked ≡ Ok plan → Honest (Some (old_records (old_in f asked) plan)) d plan → holds d plan (old_in f asked)
