-- The files that settings come from, and what each gives.
use Rattle.std.specs.Prelude.{ℕ, ◌+◌, Bool, List, [], length, min, nat_lt, codes, Option, None, Some, Result, Ok, Err, if◌then◌else◌}
use Rattle.std.specs.FinMap.{get}
use Rattle.loc_outside.specs.Files.{Files}
use Rattle.updatedb_conf.specs.declared.changes.Changes.{Changes}
use Rattle.updatedb_conf.specs.declared.fault.ConfFault.{ConfFault}
use Rattle.updatedb_conf.specs.declared.fault.ConfCause.TheVariants as conf_causes
use Rattle.updatedb_conf.specs.Settings.{Settings, changed, conf_of, default_settings}
use Rattle.mount_table.specs.declared.fault.MountFault.{MountFault}
use Rattle.mount_table.specs.declared.fault.MountCause.TheVariants as mount_causes
use Rattle.mount_table.specs.Row.{MountRow}
use Rattle.mount_table.specs.Table.{mounts_of}
use Rattle.database_update.specs.declared.settings_file.SettingsFile.{SettingsFile}
use Rattle.database_update.specs.declared.settings_file.SettingsFile.TheVariants.{Configuration, Mounts}

-- the configuration, and the mount table of the process itself
abbrev pub name_of : SettingsFile → List ℕ
name_of Configuration = codes "/etc/updatedb.conf"
name_of Mounts = codes "/proc/self/mountinfo"

-- the most bytes that each may have: 1 MiB and 16 MiB
abbrev pub limit_of : SettingsFile → ℕ
limit_of Configuration = 1048576
limit_of Mounts = 16777216

abbrev pub is_too_long : SettingsFile → List ℕ → Bool
is_too_long file text = nat_lt (limit_of file) (length text)

-- how many bytes are read of a file: all that it has, but no more than one past its limit
abbrev pub read_most : SettingsFile → Option (List ℕ) → ℕ
read_most file None = 0
read_most file (Some text) = min (length text) (limit_of file + 1)

-- the same of both files together
abbrev pub both_read : Files → ℕ
both_read files = read_most Configuration (get files (name_of Configuration)) + read_most Mounts (get files (name_of Mounts))

-- the configuration of the file and of changes to it, which change the defaults where there is no file
unfoldable pub conf_of_file : Option (List ℕ) → Changes → Result Settings ConfFault
conf_of_file None changes = Ok (changed default_settings changes)
conf_of_file (Some text) changes =
    if is_too_long Configuration text then Err (record { line = 0; cause = conf_causes.LongText }) else conf_of text changes

-- the rows of the mount file, of which there are none where there is no file
unfoldable pub mounts_of_file : Option (List ℕ) → Result (List MountRow) MountFault
mounts_of_file None = Ok []
mounts_of_file (Some text) =
    if is_too_long Mounts text then Err (record { line = 0; cause = mount_causes.LongText }) else mounts_of text
