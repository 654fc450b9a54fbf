-- A call, and what it asks of a run.
use Rattle.std.specs.Prelude.{ℕ, List, [], Option, Some, None}
use Rattle.path_order.specs.Stamp.{Moment}
use Rattle.tool_words.specs.Asked.{Asked, Updatedb, Locate, Convert, Exercise, asked}
use Rattle.tool_words.specs.Tools.{speaker, tool_of}
use Rattle.database_update.specs.SettingsFiles.{name_of}
use Rattle.database_update.specs.declared.settings_file.SettingsFile.TheVariants.{Configuration, Mounts}
use Rattle.locate_tools.specs.declared.answer.NeededFile.TheVariants.{Settings}
use Rattle.locate_tools.specs.declared.answer.Cause.{Cause}
use Rattle.locate_tools.specs.declared.answer.Cause.TheVariants as causes
use Rattle.tool_words.specs.declared.tool.Tool.{Tool}

-- The words after the program's own name, of which the first names a tool; the moment of the call; the value of
-- LOCATE_PATH, where it is set.
pub record CallMade : Type 0 where
  pub words : List (List ℕ)
  pub moment : Moment
  pub locate_path : Option (List ℕ)

-- the tool that is called
abbrev pub tool_called : CallMade → Option Tool
tool_called call = tool_of call.words

-- the name that messages begin with
abbrev pub speaker_of : CallMade → List ℕ
speaker_of call = speaker (tool_called call)

-- what a run is to do; None is bad usage
unfoldable pub request_of : CallMade → Option Asked
request_of call = asked call.words call.locate_path

-- the name that the message of a cause of `updatedb` speaks of: a settings file, or the root
abbrev pub update_subject : List ℕ → Cause → List ℕ
update_subject root (causes.BadConf line fault) = name_of Configuration
update_subject root (causes.BadMount line fault) = name_of Mounts
update_subject root (causes.ReadFault (Settings file)) = name_of file
update_subject root causes.RootMissing = root
update_subject root cause = []

-- the name that the message of a cause speaks of, where it speaks of one: of `convert` it is the input's
abbrev pub subject_of : Option Asked → Cause → List ℕ
subject_of None cause = []
subject_of (Some (Updatedb settings)) cause = update_subject settings.root cause
subject_of (Some (Locate settings)) cause = []
subject_of (Some (Convert settings)) cause = settings.input
subject_of (Some (Exercise settings)) cause = []
