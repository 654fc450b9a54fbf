-- Exit statuses.
use Rattle.std.specs.Prelude.{ℕ, Option, Some, None}
use Rattle.tool_words.specs.declared.tool.Tool.{Tool}
use Rattle.tool_words.specs.declared.tool.Tool.TheVariants.{Updatedb, Locate, Convert, Exercise}
use Rattle.locate_tools.specs.declared.answer.Cause.{Cause}
use Rattle.locate_tools.specs.declared.answer.Cause.TheVariants as causes

-- the exit status of a write fault
abbrev pub write_status : Option Tool → ℕ
write_status None = 2
write_status (Some Updatedb) = 2
write_status (Some Locate) = 1
write_status (Some Convert) = 2
write_status (Some Exercise) = 2

-- the exit status of a run
abbrev pub status_of : Option Tool → Cause → ℕ
status_of tool causes.Done = 0
status_of tool causes.NoMatch = 1
status_of tool causes.Usage = 1
status_of tool (causes.BadConf line fault) = 1
status_of tool (causes.BadMount line fault) = 1
status_of tool (causes.BadRegex pattern place fault) = 1
status_of tool causes.RootMissing = 1
status_of tool (causes.ReadFault file) = 1
status_of tool causes.Missing = 1
status_of tool causes.NotADatabase = 1
status_of tool (causes.Damage damage) = 1
status_of tool causes.TooLarge = 1
status_of tool (causes.NotAdmitted index fault) = 1
status_of tool causes.WriteFault = write_status tool
status_of tool causes.OutOfMemory = 3
status_of tool causes.TreeFault = 4
status_of tool causes.TooManyNames = 5
status_of tool causes.TooManyDirectories = 5
