-- What the words of `locate` ask for.
use Rattle.std.specs.Prelude.{ℕ, Bool, List, [], ◌∷◌, ◌++◌, Option, Some, None, codes, is_some, length, nat_lt, not, ◌==◌, ◌&&◌, ◌||◌, if◌then◌else◌}
use Rattle.clap.specs.Words.{Row, Text}
use Rattle.tool_words.specs.Commands.{locate_command}
use Rattle.tool_words.specs.Matches.{asked_by, is_given, is_used, value_of, values_of}
use Rattle.tool_words.specs.Values.{◌>>=◌, default_database, number_word, names_in, read_by}

-- the settings of a search
pub record LocateAsked : Type 0 where
  -- a path is to match all patterns, not one of them
  pub all : Bool
  -- patterns are matched against base names, not whole paths
  pub base : Bool
  -- the number of matches is written, not the paths
  pub count_only : Bool
  -- only paths that exist are found
  pub existing : Bool
  -- a last symbolic link of a path is followed to tell whether it exists
  pub follow : Bool
  -- upper and lower case are one
  pub fold : Bool
  -- the byte after each path
  pub separator : ℕ
  -- databases that can't be searched to their end are not reported
  pub quiet : Bool
  -- statistics of the databases are written, and nothing is searched
  pub statistics : Bool
  pub limit : Option ℕ
  pub databases : List Text
  pub patterns : List Text
  -- the patterns are extended expressions
  pub regex : Bool
  -- the basic expression that stands in place of patterns
  pub regexp : Option Text

-- a last symbolic link is not to be followed
abbrev pub keeps_link : List Row → Bool
keeps_link m = is_used (codes "nofollow") m || is_used (codes "H") m

-- there is a PATTERN
abbrev pub has_pattern : List Row → Bool
has_pattern m = not (length (values_of (codes "PATTERN") m) == 0)

-- two are given that exclude each other: -b and -w, -L and -P or -H, -l and -n, -r and a PATTERN or --regex
abbrev pub has_conflict : List Row → Bool
has_conflict m = (is_used (codes "basename") m && is_used (codes "wholename") m)
    || ((is_used (codes "follow") m && keeps_link m)
    || ((is_given (codes "limit") m && is_given (codes "n") m)
    || (is_given (codes "regexp") m && (is_used (codes "regex") m || has_pattern m))))

-- there is no PATTERN, no -r and no -S
abbrev pub lacks_pattern : List Row → Bool
lacks_pattern m = not (is_used (codes "statistics") m) && (not (is_given (codes "regexp") m) && not (has_pattern m))

-- the word of the limit, by either name
abbrev pub either_value : Option Text → Option Text → Option Text
either_value (Some word) other = Some word
either_value None other = other

abbrev pub limit_value : List Row → Option Text
limit_value m = either_value (value_of (codes "limit") m) (value_of (codes "n") m)

-- the databases of -d, or the default
abbrev pub given_names : Option Text → List Text
given_names None = default_database ∷ []
given_names (Some list) = names_in list

-- the databases of LOCATE_PATH, of which an empty one names none
abbrev pub path_names : Option Text → List Text
path_names None = []
path_names (Some []) = []
path_names (Some (byte ∷ list)) = names_in (byte ∷ list)

-- the databases in the order in which they are searched
unfoldable pub databases_of : Option Text → Option Text → List Text
databases_of given path = given_names given ++ path_names path

-- a rule is broken
abbrev pub breaks_rule : List Row → List Text → Bool
breaks_rule m databases = has_conflict m || (lacks_pattern m || nat_lt 4096 (length databases))

abbrev pub settings_with : List Row → List Text → Option ℕ → LocateAsked
settings_with m databases limit = record {
  all = is_used (codes "all") m;
  base = is_used (codes "basename") m;
  count_only = is_used (codes "count") m;
  existing = is_used (codes "existing") m;
  follow = not (keeps_link m);
  fold = is_used (codes "ignore-case") m;
  separator = if is_used (codes "null") m then 0 else 10;
  quiet = is_used (codes "quiet") m;
  statistics = is_used (codes "statistics") m;
  limit = limit;
  databases = databases;
  patterns = values_of (codes "PATTERN") m;
  regex = is_used (codes "regex") m;
  regexp = value_of (codes "regexp") m;
}

-- regular expressions are searched for: with -S none is read
abbrev pub seeks_expressions : LocateAsked → Bool
seeks_expressions asked = not asked.statistics && (asked.regex || is_some asked.regexp)

-- the settings, where the rules are kept
unfoldable pub settings_of : List Row → List Text → Option LocateAsked
settings_of m databases = do
  limit ← read_by number_word (limit_value m)
  if breaks_rule m databases then None else Some (settings_with m databases limit)

-- what the words and LOCATE_PATH ask for; None is bad usage
unfoldable pub locate_asked : List Text → Option Text → Option LocateAsked
locate_asked words path =
    asked_by locate_command (λ m. settings_of m (databases_of (value_of (codes "database") m) path)) words
