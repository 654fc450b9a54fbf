-- What the words of `updatedb` ask for.
use Rattle.std.specs.Prelude.{ℕ, Bool, true, List, [], Option, Some, None, codes, length, not, ◌==◌, ◌||◌, unwrap_or, if◌then◌else◌}
use Rattle.clap.specs.Words.{Row, Text}
use Rattle.tool_words.specs.Commands.{updatedb_command}
use Rattle.tool_words.specs.Matches.{asked_by, is_used, value_of}
use Rattle.tool_words.specs.Lists.{is_long, some_word_has_slash}
use Rattle.tool_words.specs.Values.{◌>>=◌, default_database, is_normal_path, read_by, version_word}
use Rattle.updatedb_conf.specs.Value.{flag_word, margin_word}

-- the settings of an update
pub record UpdatedbAsked : Type 0 where
  -- the directory that is scanned
  pub root : Text
  -- the name of the database
  pub output : Text
  -- the database's visibility flag
  pub visibility : Bool
  -- the paths that are stored are written as well
  pub verbose : Bool
  -- the database's version
  pub version : ℕ
  -- in place of the configuration's values, where given
  pub margin : Option ℕ
  pub prune_bind_mounts : Option Bool
  pub prunefs : Option Text
  pub prunenames : Option Text
  pub prunepaths : Option Text
  -- besides the configuration's values
  pub add_prunefs : Text
  pub add_prunenames : Text
  pub add_prunepaths : Text

-- the value of an option, or a text that stands for it
abbrev pub value_or : Text → Text → List Row → Text
value_or other id m = unwrap_or (value_of id m) other

-- the value of an option, or nothing: a list of words
unfoldable pub list_of : Text → List Row → Text
list_of id m = value_or [] id m

unfoldable pub root_of : List Row → Text
root_of m = value_or (codes "/") (codes "database-root") m

unfoldable pub output_of : List Row → Text
output_of m = value_or default_database (codes "output") m

-- a list of words in place of the configuration's is too long
abbrev pub has_long_list : List Row → Bool
has_long_list m = is_long (list_of (codes "prunefs") m)
    || (is_long (list_of (codes "prunenames") m) || is_long (list_of (codes "prunepaths") m))

-- a list of words besides the configuration's is too long
abbrev pub has_long_addition : List Row → Bool
has_long_addition m = is_long (list_of (codes "add-prunefs") m)
    || (is_long (list_of (codes "add-prunenames") m) || is_long (list_of (codes "add-prunepaths") m))

-- a word that is to be a name has a slash
abbrev pub has_slash_in_name : List Row → Bool
has_slash_in_name m = some_word_has_slash (list_of (codes "add-prunenames") m) || some_word_has_slash (list_of (codes "prunenames") m)

-- a rule is broken
abbrev pub breaks_rule : List Row → Bool
breaks_rule m = not (is_normal_path (root_of m))
    || (length (output_of m) == 0 || (has_long_list m || (has_long_addition m || has_slash_in_name m)))

abbrev pub settings_with : List Row → Option Bool → Option Bool → Option ℕ → Option ℕ → UpdatedbAsked
settings_with m visibility prune_bind_mounts version margin = record {
  root = root_of m;
  output = output_of m;
  visibility = unwrap_or visibility true;
  verbose = is_used (codes "verbose") m;
  version = unwrap_or version 0;
  margin = margin;
  prune_bind_mounts = prune_bind_mounts;
  prunefs = value_of (codes "prunefs") m;
  prunenames = value_of (codes "prunenames") m;
  prunepaths = value_of (codes "prunepaths") m;
  add_prunefs = list_of (codes "add-prunefs") m;
  add_prunenames = list_of (codes "add-prunenames") m;
  add_prunepaths = list_of (codes "add-prunepaths") m;
}

-- the settings, where the rules are kept
unfoldable pub settings_of : List Row → Option UpdatedbAsked
settings_of m = do
  visibility ← read_by flag_word (value_of (codes "require-visibility") m)
  prune_bind_mounts ← read_by flag_word (value_of (codes "prune-bind-mounts") m)
  version ← read_by version_word (value_of (codes "db-version") m)
  margin ← read_by margin_word (value_of (codes "recent-margin") m)
  if breaks_rule m then None else Some (settings_with m visibility prune_bind_mounts version margin)

-- what the words ask for; None is bad usage
unfoldable pub updatedb_asked : List Text → Option UpdatedbAsked
updatedb_asked words = asked_by updatedb_command settings_of words
