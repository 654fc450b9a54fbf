-- What a run of `convert` does.
use Rattle.std.specs.Prelude.{◌≡◌, ℕ, Result, Ok, Err, option_map}
use Rattle.loc_outside.specs.Snapshot.{Snapshot}
use Rattle.tool_words.specs.Convert.{ConvertAsked}
use Rattle.tool_words.specs.declared.format.Format as words
use Rattle.tool_words.specs.declared.format.Format.TheVariants as words_formats
use Rattle.db_convert.specs.declared.format.Format.{Format}
use Rattle.db_convert.specs.declared.format.Format.TheVariants as formats
use Rattle.db_convert.specs.declared.fault.ConvertFault.{ConvertFault}
use Rattle.db_convert.specs.declared.fault.ConvertFault.TheVariants as faults
use Rattle.db_convert.specs.Converts.{Around, Asked, ConvertDoes}
use Rattle.locate_tools.specs.declared.answer.NeededFile.TheVariants.{Input}
use Rattle.locate_tools.specs.declared.answer.Cause.{Cause}
use Rattle.locate_tools.specs.declared.answer.Cause.TheVariants as causes

-- the format that a word names
abbrev pub format_of : words.Format → Format
format_of words_formats.Mlocate = formats.Mlocate
format_of words_formats.Locate02 = formats.Locate02
format_of words_formats.Bigram = formats.Bigram
format_of words_formats.List = formats.List
format_of words_formats.List0 = formats.List0

-- the conversion that words ask for
abbrev pub conversion_of : ConvertAsked → Asked
conversion_of asked = record {
  from = option_map format_of asked.from;
  to = format_of asked.to;
  input = asked.input;
  target = asked.output;
}

-- why a run ends whose conversion ended with this fault
abbrev pub cause_of : ConvertFault → Cause
cause_of faults.Missing = causes.Missing
cause_of faults.NotADatabase = causes.NotADatabase
cause_of (faults.Damage damage) = causes.Damage damage
cause_of faults.ReadFault = causes.ReadFault Input
cause_of faults.TooLarge = causes.TooLarge
cause_of (faults.NotAdmitted index cause) = causes.NotAdmitted index cause
cause_of faults.WriteFault = causes.WriteFault
cause_of faults.OutOfMemory = causes.OutOfMemory

-- why a run ends whose conversion gave this answer
abbrev pub cause_after : Result ℕ ConvertFault → Cause
cause_after (Ok count) = causes.Done
cause_after (Err fault) = cause_of fault

-- the part of a snapshot that a conversion sees: the reader and the output
abbrev pub around_in : Snapshot → Around
around_in o = record {
  files = o.files;
  given = o.given;
  reads_failed = o.reads_failed;
  held = o.held;
  begins = o.begins;
  output_failed = o.output_failed;
}

-- that the output is as it was
abbrev pub same_in : Around → Around → Type 0
same_in a a' = (a'.held ≡ a.held) × (a'.begins ≡ a.begins) × (a'.output_failed ≡ a.output_failed)

-- A run of `convert` that ended so: its conversion gave an answer of which that is the cause, and did what goes with it.
pub record ConvertRun (asked : ConvertAsked) (a a' : Around) (cause : Cause) : Type 0 where
  pub result : Result ℕ ConvertFault
  pub ended : cause ≡ cause_after result
  pub does : ConvertDoes (conversion_of asked) a a' (same_in a a') result
