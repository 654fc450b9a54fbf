-- What `locate` finds in a list of databases, where no call fails.
use Rattle.std.specs.Prelude.{◌≡◌, ℕ, ◌+◌, Bool, false, ◌&&◌, ◌||◌, not, nat_eq, List, [], ◌∷◌, ◌++◌, length, map, Option, Some, None, decimal, if◌then◌else◌}
use Rattle.std.specs.List.{flat_map, list_any}
use Rattle.std.specs.FinMap.{get}
use Rattle.std.specs.Io.KnownBytes.{Appends}
use Rattle.loc_outside.specs.Files.{Files}
use Rattle.loc_outside.specs.Gates.{Tests}
use Rattle.byte_feed.specs.Paths.{PathAt}
use Rattle.glob_match.specs.Pattern.{Wanted, wanted as pattern_wanted}
use Rattle.tool_words.specs.Locate.{LocateAsked, seeks_expressions}
use Rattle.locate_engine.specs.Globs.{sought_of}
use Rattle.locate_engine.specs.Passing.{rule_of, passing, up_to}
use Rattle.locate_engine.specs.Searched.{outcome_of, at_limit}
use Rattle.locate_engine.specs.Sought.{Sought}
use Rattle.any_db.specs.Formats.{contents, is_gated}
use Rattle.locate_engine.specs.declared.query.Query.{Query}
use Rattle.locate_engine.specs.declared.outcome.Outcome.{Outcome}
use Rattle.locate_engine.specs.declared.outcome.Outcome.TheVariants as outcomes
use Rattle.locate_tools.specs.Regexes.{sought_of as sought_of_regexes}
use Rattle.locate_tools.specs.RegexesAsked.{regexes_of}
use Rattle.locate_tools.specs.Work.{Work, Search, Statistics}
use Rattle.locate_tools.specs.declared.answer.Cause.{Cause}
use Rattle.locate_tools.specs.declared.answer.Cause.TheVariants as causes

-- the patterns of the words that are no expressions
abbrev pub globs_of : LocateAsked → List Wanted
globs_of asked = if seeks_expressions asked then [] else map (λ pattern. pattern_wanted pattern asked.fold) asked.patterns

-- the query of the words
abbrev pub query_of : LocateAsked → Query
query_of asked = record {
  globs = globs_of asked;
  all = asked.all;
  base = asked.base;
  existing = asked.existing;
  follow = asked.follow;
  separator = asked.separator;
  limit = asked.limit;
  count_only = asked.count_only;
}

-- what the words look for: their expressions or their patterns
abbrev pub sought_by : LocateAsked → Sought
sought_by asked =
    if seeks_expressions asked then sought_of_regexes (regexes_of asked) asked.all asked.base else sought_of (query_of asked)

-- what is done with each database
abbrev pub work_by : Bool → Sought → Work
work_by statistics sought = if statistics then Statistics else Search sought

abbrev pub work_of : LocateAsked → Work
work_of asked = work_by asked.statistics (sought_by asked)

-- the limit is 0
abbrev pub asks_nothing : Option ℕ → Bool
asks_nothing None = false
asks_nothing (Some limit) = nat_eq limit 0

-- the databases that are tried: none where no path is asked for
abbrev pub databases_of : LocateAsked → List (List ℕ)
databases_of asked = if not asked.statistics && asks_nothing asked.limit then [] else asked.databases

-- the files and the gate's tests
pub record World : Type 0 where
  pub files : Files
  pub tests : Tests

-- ---- one database

-- a database shows its paths only to those who may list their directories
abbrev pub gated_in : Option (List ℕ) → Bool
gated_in None = false
gated_in (Some file) = is_gated file

-- the gate may be asked: existence is asked for, or one of the databases is gated
abbrev pub may_ask_gate : LocateAsked → Files → List (List ℕ) → Bool
may_ask_gate asked files names = asked.existing || list_any (λ name. gated_in (get files name)) names

-- the paths of a database that are wanted, visible and there
abbrev pub passing_in : Sought → Query → Tests → Option (List ℕ) → List PathAt
passing_in sought query tests None = []
passing_in sought query tests (Some file) = passing (rule_of sought.wanted query (is_gated file) tests) (contents file).paths

-- how a database ends that is read to its end
abbrev pub ending_in : Option (List ℕ) → Outcome
ending_in None = outcomes.Missing
ending_in (Some file) = outcome_of (contents file).ending

abbrev pub passing_at : Sought → Query → World → List ℕ → List PathAt
passing_at sought query world name = passing_in sought query world.tests (get world.files name)

abbrev pub ending_at : World → List ℕ → Outcome
ending_at world name = ending_in (get world.files name)

-- ---- all databases

-- the paths of all databases that pass, up to the limit, where so many were found before
abbrev pub found : Sought → Query → World → ℕ → List (List ℕ) → List PathAt
found sought query world matched names = up_to query.limit matched (flat_map (passing_at sought query world) names)

-- How the databases end, in their order: as they are read to their end, up to the one in which the limit is reached.
abbrev pub endings : Sought → Query → World → ℕ → List (List ℕ) → List Outcome
endings sought query world matched [] = []
endings sought query world matched (name ∷ names) =
    let now = matched + length (up_to query.limit matched (passing_at sought query world name)) in
    if at_limit query.limit now then outcomes.LimitReached ∷ []
    else ending_at world name ∷ endings sought query world now names

-- each path with the separator; nothing where paths are only counted
abbrev pub lines_of : Query → List PathAt → List ℕ
lines_of query paths = flat_map (λ (p : PathAt). if query.count_only then [] else p.text ++ query.separator ∷ []) paths

-- the number of paths and a newline, where paths are only counted
abbrev pub number_of : Query → ℕ → List ℕ
number_of query count = if query.count_only then decimal count ++ 10 ∷ [] else []

abbrev pub printed : Query → List PathAt → List ℕ
printed query paths = lines_of query paths ++ number_of query (length paths)

-- why a run ends that found so many paths
abbrev pub cause_of : Option ℕ → ℕ → Cause
cause_of limit count = if nat_eq count 0 && not (asks_nothing limit) then causes.NoMatch else causes.Done

-- What these databases give, where no call failed: exactly the paths that pass were printed, up to the limit, and each
-- database ends as it does.
pub record LocatesIn (asked : LocateAsked) (world : World) (names : List (List ℕ)) (taken taken' : Option (List ℕ)) (outcomes : List Outcome) (cause : Cause) : Type 0 where
  pub prints : Appends taken taken' (printed (query_of asked) (found (sought_by asked) (query_of asked) world 0 names))
  pub ends : outcomes ≡ endings (sought_by asked) (query_of asked) world 0 names
  pub answer : cause ≡ cause_of asked.limit (length (found (sought_by asked) (query_of asked) world 0 names))

abbrev pub Locates : LocateAsked → World → Option (List ℕ) → Option (List ℕ) → List Outcome → Cause → Type 0
Locates asked world taken taken' outcomes cause = LocatesIn asked world (databases_of asked) taken taken' outcomes cause
