-- What the matcher of a query keeps from path to path.
use Rattle.std.specs.Prelude.{◌≡◌, ℕ, false, List, [], get_or, slice_get, Some}
use Rattle.glob_match.specs.Pattern.{Wanted}
use Rattle.glob_match.specs.Spot.{Known}
use Rattle.glob_match.specs.declared.spot.Spot.{Spot}
use Rattle.glob_match.specs.declared.spot.Spot.TheVariants.{Unjudged}
use Rattle.locate_engine.specs.declared.query.Query.{Query}

-- the query, and what is known of the path in hand for each of its first patterns
pub record Kept : Type 0 where
  pub query : Query
  pub spots : List Spot

-- before any path
abbrev pub fresh : Query → Kept
fresh query = record { query = query; spots = [] }

-- what is known for the pattern at a place
abbrev pub spot_at : List Spot → ℕ → Spot
spot_at spots i = get_or spots i Unjudged

-- it is true of this path, for each pattern
abbrev pub KnowsAll : List Spot → List Wanted → List ℕ → Type 0
KnowsAll spots globs path = (i : ℕ) (glob : Wanted) → slice_get globs i ≡ Some glob → Known (spot_at spots i) glob path

-- What is kept is true of this path. Where patterns are asked of base names, nothing is claimed.
abbrev pub KnowsPath : Kept → List ℕ → Type 0
KnowsPath kept path = kept.query.base ≡ false → KnowsAll kept.spots kept.query.globs path
