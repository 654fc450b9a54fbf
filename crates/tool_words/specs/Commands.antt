-- The command lines of the tools: which flags and options each has, in the terms of clap. A letter is a text of one
-- character.
use Rattle.std.specs.Prelude.{List, [], ◌∷◌, Some, true, codes, fold, slice_get}
use Rattle.clap.specs.Words.{App, Rule, Text, new_app, new_rule, with_rule}
use Rattle.clap.specs.Simple.{on_top}
use Rattle.clap.specs.declared.builder.action.ArgAction.TheVariants.{Append, Count, Set}

-- a flag with a long name and a letter, which may be repeated
abbrev pub flag : Text → Text → Rule
flag name letter = record (new_rule name) { short = slice_get letter 0; long = Some name; action = Some Count }

-- the same with a long name alone
abbrev pub long_flag : Text → Rule
long_flag name = record (new_rule name) { long = Some name; action = Some Count }

-- a flag with a letter alone, which may be repeated
abbrev pub short_flag : Text → Text → Rule
short_flag id letter = record (new_rule id) { short = slice_get letter 0; action = Some Count }

-- an option with a value, given at most once, with a long name and a letter
abbrev pub option : Text → Text → Rule
option name letter = record (new_rule name) { short = slice_get letter 0; long = Some name; action = Some Set }

-- the same with a letter alone
abbrev pub short_option : Text → Text → Rule
short_option id letter = record (new_rule id) { short = slice_get letter 0; action = Some Set }

-- the same with a long name alone
abbrev pub long_option : Text → Rule
long_option name = record (new_rule name) { long = Some name; action = Some Set }

-- the same, which must be given
abbrev pub needed_option : Text → Rule
needed_option name = record (long_option name) { required = true }

-- one word that belongs to no flag or option, and must be given
abbrev pub needed_word : Text → Rule
needed_word id = record (new_rule id) { action = Some Set; required = true }

-- the words that belong to no flag or option, any number of them
abbrev pub words_left : Text → Rule
words_left id = record (new_rule id) { action = Some Append }

-- a command and one argument more
unfoldable pub with_argument : App → Rule → App
with_argument command rule = with_rule command rule

-- a command without arguments, without a flag for help and without one for a version
unfoldable pub bare : Text → App
bare name = on_top (λ s. record s { disable_help_flag = true; disable_version_flag = true }) (new_app name)

-- a command with these arguments
abbrev pub command : Text → List Rule → App
command name rules = fold with_argument (bare name) rules

-- the command line of `updatedb`: that of mlocate's updatedb(8), and this project's own `--db-version` and `--recent-margin`
unfoldable pub updatedb_command : App
updatedb_command = command (codes "updatedb") (
    option (codes "add-prunefs") (codes "f")
    ∷ option (codes "add-prunenames") (codes "n")
    ∷ option (codes "add-prunepaths") (codes "e")
    ∷ option (codes "database-root") (codes "U")
    ∷ option (codes "output") (codes "o")
    ∷ option (codes "require-visibility") (codes "l")
    ∷ long_option (codes "prune-bind-mounts")
    ∷ long_option (codes "prunefs")
    ∷ long_option (codes "prunenames")
    ∷ long_option (codes "prunepaths")
    ∷ long_option (codes "db-version")
    ∷ long_option (codes "recent-margin")
    ∷ flag (codes "verbose") (codes "v") ∷ [])

-- the command line of `locate`: that of mlocate's locate(1), without `--help`, `--version` and abbreviated long names
unfoldable pub locate_command : App
locate_command = command (codes "locate") (
    flag (codes "all") (codes "A")
    ∷ flag (codes "basename") (codes "b")
    ∷ flag (codes "count") (codes "c")
    ∷ flag (codes "existing") (codes "e")
    ∷ flag (codes "follow") (codes "L")
    ∷ flag (codes "nofollow") (codes "P")
    ∷ short_flag (codes "H") (codes "H")
    ∷ flag (codes "ignore-case") (codes "i")
    ∷ flag (codes "null") (codes "0")
    ∷ flag (codes "quiet") (codes "q")
    ∷ flag (codes "statistics") (codes "S")
    ∷ flag (codes "wholename") (codes "w")
    ∷ flag (codes "mmap") (codes "m")
    ∷ flag (codes "stdio") (codes "s")
    ∷ long_flag (codes "regex")
    ∷ option (codes "regexp") (codes "r")
    ∷ option (codes "database") (codes "d")
    ∷ option (codes "limit") (codes "l")
    ∷ short_option (codes "n") (codes "n")
    ∷ words_left (codes "PATTERN") ∷ [])

-- the command line of `convert`, which is this project's own
unfoldable pub convert_command : App
convert_command = command (codes "convert") (
    long_option (codes "from")
    ∷ needed_option (codes "to")
    ∷ needed_word (codes "INPUT")
    ∷ needed_word (codes "OUTPUT") ∷ [])

-- the command line of `exercise`, which is this project's own
unfoldable pub exercise_command : App
exercise_command = command (codes "exercise") (
    needed_word (codes "NUMBER")
    ∷ needed_word (codes "ROUNDS") ∷ [])
