-- What the settings files and the words of a call ask for: the plan of a scan, or the first refusal.
use Rattle.std.specs.Prelude.{◌≡◌, List, option_map, Option, Some, Result, Ok, Err}
use Rattle.std.specs.FinMap.{get}
use Rattle.loc_outside.specs.Files.{Files}
use Rattle.loc_outside.specs.Trees.{Dirs}
use Rattle.updatedb_conf.specs.declared.changes.Changes.{Changes}
use Rattle.updatedb_conf.specs.declared.fault.ConfFault.{ConfFault}
use Rattle.updatedb_conf.specs.Line.{◌>>=◌}
use Rattle.updatedb_conf.specs.Settings.{Settings}
use Rattle.updatedb_conf.specs.Words.{words}
use Rattle.mount_table.specs.declared.fault.MountFault.{MountFault}
use Rattle.mount_table.specs.Row.{MountRow}
use Rattle.tool_words.specs.Updatedb.{UpdatedbAsked}
use Rattle.tree_scan.specs.declared.rules.Rules.{Rules}
use Rattle.tree_scan.specs.Plan.{Plan}
use Rattle.tree_scan.specs.Plans.{plan_of}
use Rattle.database_update.specs.declared.fault.UpdateFault.{UpdateFault}
use Rattle.database_update.specs.declared.fault.UpdateFault.TheVariants.{BadConf, BadMount}
use Rattle.database_update.specs.declared.settings_file.SettingsFile.TheVariants.{Configuration, Mounts}
use Rattle.database_update.specs.SettingsFiles.{name_of, conf_of_file, mounts_of_file}

-- how the words change a configuration: the lists of `--prune..` replace, those of `--add-..` are added afterwards
abbrev pub changes_of : UpdatedbAsked → Changes
changes_of asked = record {
  bind = asked.prune_bind_mounts;
  margin = asked.margin;
  fs = option_map words asked.prunefs;
  names = option_map words asked.prunenames;
  paths = option_map words asked.prunepaths;
  add_fs = words asked.add_prunefs;
  add_names = words asked.add_prunenames;
  add_paths = words asked.add_prunepaths;
}

-- what a refused configuration and a refused mount table are answered by
abbrev pub conf_or_fault : Result Settings ConfFault → Result Settings UpdateFault
conf_or_fault (Ok conf) = Ok conf
conf_or_fault (Err fault) = Err (BadConf fault.line fault.cause)

abbrev pub mounts_or_fault : Result (List MountRow) MountFault → Result (List MountRow) UpdateFault
mounts_or_fault (Ok mounts) = Ok mounts
mounts_or_fault (Err fault) = Err (BadMount fault.line fault.cause)

-- the configuration that the files give, with the changes of the words
unfoldable pub conf_in : Files → UpdatedbAsked → Result Settings UpdateFault
conf_in files asked = conf_or_fault (conf_of_file (get files (name_of Configuration)) (changes_of asked))

-- the mounts that the files give
unfoldable pub mounts_in : Files → Result (List MountRow) UpdateFault
mounts_in files = mounts_or_fault (mounts_of_file (get files (name_of Mounts)))

-- what is scanned, and how it is written
abbrev pub rules_of : UpdatedbAsked → Settings → List MountRow → Rules
rules_of asked conf mounts = record {
  root = asked.root;
  conf = conf;
  mounts = mounts;
  flag = asked.visibility;
  verbose = asked.verbose;
  version = asked.version;
}

-- the plan of the scan, or the refusal of the configuration, or that of the mounts
unfoldable pub plan_in : Files → UpdatedbAsked → Result Plan UpdateFault
plan_in files asked = do
  conf ← conf_in files asked
  mounts ← mounts_in files
  Ok (plan_of (rules_of asked conf mounts))

-- What holds of the directories and of the plan, where the files and the directories are known and the files give a
-- plan.
abbrev pub WherePlanned : Option Files → Option Dirs → UpdatedbAsked → (Dirs → Plan → Type 0) → Type 0
WherePlanned files dirs asked holds =
    (f : Files) (d : Dirs) (plan : Plan) → files ≡ Some f → dirs ≡ Some d → plan_in f asked ≡ Ok plan → holds d plan
