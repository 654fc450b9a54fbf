-- The messages, each a line with its newline, and the text of statistics.
use Rattle.std.specs.Prelude.{ℕ, List, [], ◌∷◌, codes, decimal}
use Rattle.std.specs.List.{concat}
use Rattle.byte_feed.specs.declared.damage.DamageCause.{DamageCause}
use Rattle.byte_feed.specs.declared.damage.DamageCause.TheVariants as damages
use Rattle.db_convert.specs.declared.format.AdmitCause.{AdmitCause}
use Rattle.db_convert.specs.declared.format.AdmitCause.TheVariants as admits
use Rattle.mount_table.specs.declared.fault.MountCause.{MountCause}
use Rattle.mount_table.specs.declared.fault.MountCause.TheVariants as mounts
use Rattle.posix_regex.specs.Texts.{text_of as regex_text}
use Rattle.updatedb_conf.specs.Texts.{text_of as conf_text}
use Rattle.locate_engine.specs.declared.outcome.Outcome.{Outcome}
use Rattle.locate_engine.specs.declared.outcome.Outcome.TheVariants as outcomes
use Rattle.locate_engine.specs.declared.counting.Stats.{Stats}
use Rattle.locate_tools.specs.declared.answer.Cause.{Cause}
use Rattle.locate_tools.specs.declared.answer.Cause.TheVariants as causes

-- ---- causes in words

-- why an item of a database is not whole
abbrev pub text_of : DamageCause → List ℕ
text_of damages.Cut = codes "cut short"
text_of damages.BadVersion = codes "unknown version"
text_of damages.BadFlag = codes "bad visibility flag"
text_of damages.LongPath = codes "path too long"
text_of damages.EmptyPath = codes "empty path"
text_of damages.BadNanos = codes "bad nanoseconds"
text_of damages.BadKind = codes "unknown entry type"
text_of damages.EmptyName = codes "empty name"
text_of damages.BadCount = codes "bad prefix count"
text_of damages.NoCount = codes "prefix count missing"
text_of damages.EmptyPair = codes "unused pair"
text_of damages.BadWord = codes "bad count word"
text_of damages.ZeroChar = codes "zero byte in path"

-- why a mount table is refused
abbrev pub mount_text : MountCause → List ℕ
mount_text mounts.FewFields = codes "too few fields"
mount_text mounts.NoSeparator = codes "no separator"
mount_text mounts.BadDevice = codes "bad device number"
mount_text mounts.BadEscape = codes "bad escape"
mount_text mounts.BadPath = codes "bad mount point"
mount_text mounts.OutOfMemory = codes "out of memory"
mount_text mounts.LongText = codes "file too long"

-- why a format can't hold a path
abbrev pub admit_text : AdmitCause → List ℕ
admit_text admits.Newline = codes "newline in path"
admit_text admits.NotNormal = codes "not a normal path below the root"

-- ---- lines

-- a line about the run
unfoldable pub line : List ℕ → List ℕ → List ℕ
line tool text = concat (tool ∷ codes ": " ∷ text ∷ codes "\n" ∷ [])

-- a line about a file or a directory
unfoldable pub line_about : List ℕ → List ℕ → List ℕ → List ℕ
line_about tool name text = concat (tool ∷ codes ": " ∷ name ∷ codes ": " ∷ text ∷ codes "\n" ∷ [])

-- a line about a line of a file, which is given by its digits
unfoldable pub numbered_line : List ℕ → List ℕ → List ℕ → List ℕ → List ℕ
numbered_line tool name digits text = concat (tool ∷ codes ": " ∷ name ∷ codes ":" ∷ digits ∷ codes ": " ∷ text ∷ codes "\n" ∷ [])

-- a line about damage at a place, which is given by its digits
unfoldable pub damage_line : List ℕ → List ℕ → List ℕ → List ℕ → List ℕ
damage_line tool name place text =
    concat (tool ∷ codes ": " ∷ name ∷ codes ": damaged at byte " ∷ place ∷ codes ": " ∷ text ∷ codes "\n" ∷ [])

-- a line about a byte of an expression, whose place is given by its digits
unfoldable pub regex_line : List ℕ → List ℕ → List ℕ → List ℕ
regex_line tool text place = concat (tool ∷ codes ": bad regular expression: " ∷ text ∷ codes " at byte " ∷ place ∷ codes "\n" ∷ [])

-- a line about a path, whose number is given by its digits
unfoldable pub path_line : List ℕ → List ℕ → List ℕ → List ℕ
path_line tool number text = concat (tool ∷ codes ": path " ∷ number ∷ codes ": " ∷ text ∷ codes "\n" ∷ [])

-- ---- what is told

-- what is told of a database: nothing where it was searched whole or up to the limit, and a failed write is told as the
-- cause
abbrev pub outcome_message : List ℕ → List ℕ → Outcome → List ℕ
outcome_message tool name outcomes.Whole = []
outcome_message tool name outcomes.Missing = line_about tool name (codes "no such database")
outcome_message tool name outcomes.NotADatabase = line_about tool name (codes "not a database")
outcome_message tool name (outcomes.Damage damage) = damage_line tool name (decimal damage.place) (text_of damage.cause)
outcome_message tool name outcomes.ReadFault = line_about tool name (codes "read fault")
outcome_message tool name outcomes.GateFault = line_about tool name (codes "visibility check failed")
outcome_message tool name outcomes.TooLarge = line_about tool name (codes "too large")
outcome_message tool name outcomes.LimitReached = []
outcome_message tool name outcomes.WriteFault = []

-- what is told of a run by this tool that ends so, of the subject that the cause speaks of
abbrev pub cause_message : List ℕ → List ℕ → Cause → List ℕ
cause_message tool subject causes.Done = []
cause_message tool subject causes.NoMatch = []
cause_message tool subject causes.Usage = line tool (codes "bad usage")
cause_message tool subject (causes.BadConf number fault) = numbered_line tool subject (decimal number) (conf_text fault)
cause_message tool subject (causes.BadMount number fault) = numbered_line tool subject (decimal number) (mount_text fault)
cause_message tool subject (causes.BadRegex pattern place fault) = regex_line tool (regex_text fault) (decimal place)
cause_message tool subject causes.RootMissing = line_about tool subject (codes "no such directory")
cause_message tool subject (causes.ReadFault file) = line_about tool subject (codes "read fault")
cause_message tool subject causes.Missing = line_about tool subject (codes "no such database")
cause_message tool subject causes.NotADatabase = line_about tool subject (codes "not a database")
cause_message tool subject (causes.Damage damage) = damage_line tool subject (decimal damage.place) (text_of damage.cause)
cause_message tool subject causes.TooLarge = line_about tool subject (codes "too large")
cause_message tool subject (causes.NotAdmitted index fault) = path_line tool (decimal index) (admit_text fault)
cause_message tool subject causes.WriteFault = line tool (codes "write fault")
cause_message tool subject causes.OutOfMemory = line tool (codes "out of memory")
cause_message tool subject causes.TreeFault = line tool (codes "tree fault")
cause_message tool subject causes.TooManyNames = line tool (codes "too many names")
cause_message tool subject causes.TooManyDirectories = line tool (codes "too many directories")

-- ---- statistics

-- the statistics of a database, whose counts are given by their digits
unfoldable pub counts_text : List ℕ → List ℕ → List ℕ → List ℕ → List ℕ → List ℕ
counts_text name directories files name_bytes stored = concat (
    codes "Database " ∷ name ∷ codes ":\n\t"
    ∷ directories ∷ codes " directories\n\t"
    ∷ files ∷ codes " files\n\t"
    ∷ name_bytes ∷ codes " bytes in file names\n\t"
    ∷ stored ∷ codes " bytes used to store database\n"
    ∷ [])

-- the statistics of a database, as `locate -S` writes them
abbrev pub statistics_text : List ℕ → Stats → List ℕ
statistics_text name stats =
    counts_text name (decimal stats.directories) (decimal stats.files) (decimal stats.name_bytes) (decimal stats.stored)
