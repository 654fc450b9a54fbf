-- What a search does with the database of a name.
use Rattle.std.specs.Prelude.{◌≡◌, ℕ, ◌+◌, ◌-◌, ◌^◌, ◌≤◌, ◌||◌, List, length, Option, Some, None, IfSome, IsTrue}
use Rattle.std.specs.FinMap.{get}
use Rattle.loc_outside.specs.Causes.{raised}
use Rattle.any_db.specs.Formats.{contents, is_gated}
use Rattle.locate_engine.specs.declared.outcome.Outcome.{Outcome}
use Rattle.locate_engine.specs.declared.outcome.Outcome.TheVariants as outcomes
use Rattle.locate_engine.specs.declared.query.Query.{Query}
use Rattle.locate_engine.specs.Passing.{rule_of, tests_asked}
use Rattle.locate_engine.specs.Searched.{EndsWithin, SearchesTo, SearchesWhole, is_missing_or_read_fault, seen_in}
use Rattle.locate_engine.specs.Sight.{Idle, MeetsLimit, Moves, NoneFailed, Sight, stand_in}
use Rattle.locate_engine.specs.Sought.{Sought}

-- ---- a file

-- where no call failed: what was printed and counted over all its paths, and how it ended
abbrev pub SearchesAll : Sought → Query → List ℕ → Sight → Outcome → Sight → Type 0
SearchesAll sought query file before outcome after =
    IfSome (tests_asked (is_gated file || query.existing) before.tests) (λ told. SearchesWhole (rule_of sought.wanted query (is_gated file) told) (contents file) (stand_in before) (stand_in after) outcome)

-- Whatever failed: what was done over its first paths, where the gate tells its tests, or none is asked. The bytes given on
-- a failed read are those by which their count rose, which stands still only near 2^64.
abbrev pub SearchesPart : Sought → Query → List ℕ → Sight → Outcome → Sight → Type 0
SearchesPart sought query file before outcome after =
    IfSome (tests_asked (is_gated file || query.existing) before.tests) (λ told. (outcome ≡ outcomes.ReadFault → before.given ≤ 2 ^ 63) →
    SearchesTo (rule_of sought.wanted query (is_gated file) told) sought.bound (seen_in file (after.given - before.given) outcome) (stand_in before) (stand_in after) before.steps after.steps outcome (after.given - before.given))

-- How much was read of a file: no more than it has; all of it where it was read to its end, and all below 2^40 where it is
-- too large.
pub record ReadsWithin (file : List ℕ) (given given' : ℕ) (outcome : Outcome) : Type 0 where
  pub most : given' ≤ given + length file
  pub whole : outcome ≡ outcomes.Whole → given' ≡ raised given (length file)
  pub too_large : outcome ≡ outcomes.TooLarge → given' ≡ raised given (2 ^ 40)

-- What a search did with a file.
pub record SearchesFile (sought : Sought) (query : Query) (file : List ℕ) (before : Sight) (outcome : Outcome) (after : Sight) : Type 0 where
  pub exact : NoneFailed before after → SearchesAll sought query file before outcome after
  pub part : SearchesPart sought query file before outcome after
  pub ended : EndsWithin sought.bound (contents file) before.steps after.steps outcome
  pub read : ReadsWithin file before.given after.given outcome
  pub there : outcome ≡ outcomes.Missing → ⊥

-- ---- by its name

-- There is no file of the name: the search says so, unless the reader failed, and nothing was done.
pub record FindsNone (before : Sight) (outcome : Outcome) (after : Sight) : Type 0 where
  pub ended : IsTrue (is_missing_or_read_fault outcome)
  pub idle : Idle before after

-- what a search did with the file of a name, or without one
abbrev pub SearchesFound : Sought → Query → Option (List ℕ) → Sight → Outcome → Sight → Type 0
SearchesFound sought query None before outcome after = FindsNone before outcome after
SearchesFound sought query (Some file) before outcome after = SearchesFile sought query file before outcome after

-- What a search did. Of the file it says something where the reader tells its files.
pub record SearchesNamed (sought : Sought) (query : Query) (name : List ℕ) (before : Sight) (outcome : Outcome) (after : Sight) : Type 0 where
  pub found : IfSome before.files (λ files. SearchesFound sought query (get files name) before outcome after)
  pub idle : outcome ≡ outcomes.Missing → Idle before after
  pub limit : MeetsLimit query.limit outcome after.matched
  pub moves : Moves before outcome after
