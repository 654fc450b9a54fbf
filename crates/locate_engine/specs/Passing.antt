-- Which paths of a database pass, what is printed of them, and how often a gate is asked.
use Rattle.std.specs.Prelude.{◌≡◌, true, ℕ, ◌+◌, ◌-◌, Bool, not, ◌&&◌, ◌||◌, ◌==◌, nat_eq, List, [], ◌∷◌, ◌++◌, length, take, map, filter, Option, Some, None, if◌then◌else◌}
use Rattle.std.specs.List.{flat_map, dedup}
use Rattle.loc_outside.specs.Gates.{Tests}
use Rattle.byte_feed.specs.Paths.{PathAt}
use Rattle.locate_engine.specs.declared.query.Query.{Query}

-- What a search of one database goes by: which paths are wanted, whether the database shows its paths only to those who
-- may list their directories, the gate's tests of directories and paths, and how the query asks.
pub record Rule : Type 0 where
  pub wanted : List ℕ → Bool
  pub gated : Bool
  pub tests : Tests
  pub existing : Bool
  pub follow : Bool
  pub separator : ℕ
  pub limit : Option ℕ
  pub count_only : Bool

abbrev pub rule_of : (List ℕ → Bool) → Query → Bool → Tests → Rule
rule_of wanted query gated tests = record {
  wanted = wanted;
  gated = gated;
  tests = tests;
  existing = query.existing;
  follow = query.follow;
  separator = query.separator;
  limit = query.limit;
  count_only = query.count_only;
}

-- The gate's tests, where they are known. Where nobody has to ask the gate, any will do.
abbrev pub tests_asked : Bool → Option Tests → Option Tests
tests_asked asks tests = if asks then tests else Some (record { shows = λ dir. true; exists = λ follow path. true })

-- ---- one path

abbrev pub is_wanted : Rule → PathAt → Bool
is_wanted rule p = rule.wanted p.text

-- the directory in which the path stands
abbrev pub dir_of : PathAt → List ℕ
dir_of p = take p.dir_len p.text

-- The number of the block in which the path stands, by which a stream tells that the directory is the one before: the
-- number of directory heads up to here.
abbrev pub block_of : PathAt → ℕ
block_of p = p.heads

-- The path may be shown only where its directory may be: the database asks for that, and has a directory for it.
abbrev pub is_guarded : Bool → PathAt → Bool
is_guarded gated p = gated && not (p.dir_len == 0)

-- the path may be shown
abbrev pub is_visible : Rule → PathAt → Bool
is_visible rule p = not (is_guarded rule.gated p) || rule.tests.shows (dir_of p)

-- it is not asked whether the path exists, or it does
abbrev pub is_there : Rule → PathAt → Bool
is_there rule p = not rule.existing || rule.tests.exists rule.follow p.text

abbrev pub passes : Rule → PathAt → Bool
passes rule p = is_wanted rule p && (is_visible rule p && is_there rule p)

-- what is printed of a path that passes
abbrev pub line_by : Bool → ℕ → List ℕ → List ℕ
line_by count_only separator path = if count_only then [] else path ++ separator ∷ []

abbrev pub line_of : Rule → PathAt → List ℕ
line_of rule p = line_by rule.count_only rule.separator p.text

-- ---- many paths

abbrev pub wanted_of : Rule → List PathAt → List PathAt
wanted_of rule paths = filter (is_wanted rule) paths

abbrev pub passing : Rule → List PathAt → List PathAt
passing rule paths = filter (passes rule) paths

abbrev pub lines : Rule → List PathAt → List ℕ
lines rule paths = flat_map (line_of rule) paths

-- of those that pass, the ones up to the limit, where so many were counted before
abbrev pub up_to : Option ℕ → ℕ → List PathAt → List PathAt
up_to None matched paths = paths
up_to (Some limit) matched paths = take (limit - matched) paths

-- the blocks of the wanted paths that may be shown only where their directory may be
abbrev pub guarded_blocks : Rule → List PathAt → List ℕ
guarded_blocks rule paths = map block_of (filter (is_guarded rule.gated) (wanted_of rule paths))

-- The gate is asked once for the directory of each of these blocks,
abbrev pub blocks_asked : Rule → List PathAt → ℕ
blocks_asked rule paths = length (dedup nat_eq (guarded_blocks rule paths))

-- and once for each wanted path that may be shown, where it is asked whether paths exist.
abbrev pub paths_asked : Rule → List PathAt → ℕ
paths_asked rule paths = if rule.existing then length (filter (is_visible rule) (wanted_of rule paths)) else 0

abbrev pub due : Rule → List PathAt → ℕ
due rule paths = blocks_asked rule paths + paths_asked rule paths

-- a path and a later one of the same block have the same directory
abbrev pub OneDirectory : List PathAt → Type 0
OneDirectory paths = (p q : PathAt) (before between behind : List PathAt) → paths ≡ before ++ p ∷ (between ++ q ∷ behind) → block_of p ≡ block_of q → dir_of p ≡ dir_of q
