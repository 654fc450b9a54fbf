-- A configuration: what a text gives, and what changes make of it.
use Rattle.std.specs.Prelude.{ℕ, ◌+◌, Bool, false, List, [], ◌∷◌, map, unwrap_or, Option, None, Some, Result, Ok, Err}
use Rattle.std.specs.List.{slice_split}
use Rattle.std.specs.Option.{option_map}
use Rattle.std.specs.FinMap.{empty}
use Rattle.updatedb_conf.specs.declared.fault.ConfCause.{ConfCause}
use Rattle.updatedb_conf.specs.declared.fault.ConfFault.{ConfFault}
use Rattle.updatedb_conf.specs.declared.changes.Changes.{Changes}
use Rattle.updatedb_conf.specs.Line.{◌>>=◌}
use Rattle.updatedb_conf.specs.Value.{Given, nothing_given, with_line}
use Rattle.updatedb_conf.specs.Words.{WordSet, set_of, joined, set_room, room_of, words, upper, is_newline}

-- the flag, the sets of file system types, base names and paths, and the margin in seconds; the types of a
-- configuration are in ASCII upper case
pub record Settings : Type 0 where
  pub bind : Bool
  pub fs : WordSet
  pub names : WordSet
  pub paths : WordSet
  pub margin : ℕ

-- what holds where nothing is given
abbrev pub default_settings : Settings
default_settings = record { bind = false; fs = empty; names = empty; paths = empty; margin = 3 }

-- a value as its words, or none where there is no value
abbrev pub words_given : Option (List ℕ) → List (List ℕ)
words_given value = words (unwrap_or value [])

-- the settings of given values
abbrev pub settings_of : Given → Settings
settings_of given = record {
  bind = unwrap_or given.bind false;
  fs = set_of (map upper (words_given given.fs));
  names = set_of (words_given given.names);
  paths = set_of (words_given given.paths);
  margin = unwrap_or given.margin 3;
}

-- the lines of a text; what follows the last newline is a line too, which may be empty
abbrev pub lines : List ℕ → List (List ℕ)
lines text = slice_split is_newline text

-- what a line gives, where a fault is that of the line of this number
abbrev pub at_line : ℕ → Result Given ConfCause → Result Given ConfFault
at_line number (Ok given) = Ok given
at_line number (Err cause) = Err (record { line = number; cause = cause })

-- the values of these lines, of which the first has this number, after earlier values; or the first fault
abbrev pub given_by : ℕ → Given → List (List ℕ) → Result Given ConfFault
given_by number given [] = Ok given
given_by number given (line ∷ rest) = at_line number (with_line given line) >>= λ more. given_by (number + 1) more rest

-- the values of a text, whose lines are counted from 1
unfoldable pub given_in : List ℕ → Result Given ConfFault
given_in text = given_by 1 nothing_given (lines text)

-- the settings of a text, or its first fault
abbrev pub settings_in : List ℕ → Result Settings ConfFault
settings_in text = given_in text >>= λ given. Ok (settings_of given)

-- a set after a replacing change, if there is one, and then an adding one
abbrev pub changed_set : WordSet → Option (List (List ℕ)) → List (List ℕ) → WordSet
changed_set set None adding = joined set adding
changed_set set (Some replacing) adding = joined (set_of replacing) adding

-- settings after changes
abbrev pub changed : Settings → Changes → Settings
changed before changes = record {
  bind = unwrap_or changes.bind before.bind;
  fs = changed_set before.fs (option_map (map upper) changes.fs) (map upper changes.add_fs);
  names = changed_set before.names changes.names changes.add_names;
  paths = changed_set before.paths changes.paths changes.add_paths;
  margin = unwrap_or changes.margin before.margin;
}

-- the configuration of a text and of changes to it, or the first fault of the text
abbrev pub conf_of : List ℕ → Changes → Result Settings ConfFault
conf_of text changes = settings_in text >>= λ before. Ok (changed before changes)

-- the bytes of all words in the three sets, and one more for each
abbrev pub settings_room : Settings → ℕ
settings_room settings = set_room settings.fs + set_room settings.names + set_room settings.paths

-- the same of the words of changes
abbrev pub changes_room : Changes → ℕ
changes_room changes =
    room_of (unwrap_or changes.fs []) + room_of (unwrap_or changes.names []) + room_of (unwrap_or changes.paths [])
    + (room_of changes.add_fs + room_of changes.add_names + room_of changes.add_paths)
