-- What the words of `convert` ask for.
use Rattle.std.specs.Prelude.{Bool, List, [], Option, Some, None, codes, length, ◌==◌, ◌||◌, unwrap_or, if◌then◌else◌}
use Rattle.clap.specs.Words.{Row, Text}
use Rattle.tool_words.specs.Commands.{convert_command}
use Rattle.tool_words.specs.Formats.{format_word}
use Rattle.tool_words.specs.Matches.{asked_by, value_of}
use Rattle.tool_words.specs.Values.{◌>>=◌, read_by}
use Rattle.tool_words.specs.declared.format.Format.{Format}

-- the settings of a conversion
pub record ConvertAsked : Type 0 where
  -- the format of the input; where it is not given, the input's own bytes tell it
  pub from : Option Format
  -- the format of the output
  pub to : Format
  pub input : Text
  pub output : Text

-- the name of a file, which clap demands
unfoldable pub file_of : Text → List Row → Text
file_of id m = unwrap_or (value_of id m) []

-- a file has no name
abbrev pub lacks_name : List Row → Bool
lacks_name m = length (file_of (codes "INPUT") m) == 0 || length (file_of (codes "OUTPUT") m) == 0

abbrev pub settings_with : List Row → Option Format → Format → ConvertAsked
settings_with m from to = record {
  from = from;
  to = to;
  input = file_of (codes "INPUT") m;
  output = file_of (codes "OUTPUT") m;
}

-- the format of the output, where its word names one
unfoldable pub to_of : List Row → Option Format
to_of m = value_of (codes "to") m >>= format_word

-- the settings, where the rules are kept
unfoldable pub settings_of : List Row → Option ConvertAsked
settings_of m = do
  from ← read_by format_word (value_of (codes "from") m)
  to ← to_of m
  if lacks_name m then None else Some (settings_with m from to)

-- what the words ask for; None is bad usage
unfoldable pub convert_asked : List Text → Option ConvertAsked
convert_asked words = asked_by convert_command settings_of words
