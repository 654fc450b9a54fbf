-- What words ask for.
use Rattle.std.specs.Prelude.{List, Option, option_map}
use Rattle.clap.specs.Words.{Text}
use Rattle.tool_words.specs.Values.{◌>>=◌}
use Rattle.tool_words.specs.Tools.{tool_of}
use Rattle.tool_words.specs.Convert.{ConvertAsked, convert_asked}
use Rattle.tool_words.specs.Exercise.{ExerciseAsked, exercise_asked}
use Rattle.tool_words.specs.Locate.{LocateAsked, locate_asked}
use Rattle.tool_words.specs.Updatedb.{UpdatedbAsked, updatedb_asked}
use Rattle.tool_words.specs.declared.tool.Tool.{Tool}
use Rattle.tool_words.specs.declared.tool.Tool.TheVariants as tools

-- what a command line asks for: a tool, with its settings
pub data Asked : Type 0 where
  Updatedb : UpdatedbAsked → Asked
  Locate : LocateAsked → Asked
  Convert : ConvertAsked → Asked
  Exercise : ExerciseAsked → Asked

-- by the words of one tool
abbrev pub asked_of : Tool → List Text → Option Text → Option Asked
asked_of tools.Updatedb words path = option_map Updatedb (updatedb_asked words)
asked_of tools.Locate words path = option_map Locate (locate_asked words path)
asked_of tools.Convert words path = option_map Convert (convert_asked words)
asked_of tools.Exercise words path = option_map Exercise (exercise_asked words)

-- by the tool that the first word names, and LOCATE_PATH; None is bad usage
unfoldable pub asked : List Text → Option Text → Option Asked
asked words path = do
  tool ← tool_of words
  asked_of tool words path
