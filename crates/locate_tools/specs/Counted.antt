-- What `locate -S` writes of a list of databases, where no call fails.
use Rattle.std.specs.Prelude.{◌≡◌, ℕ, List, [], map, Option, Some, None}
use Rattle.std.specs.List.{flat_map}
use Rattle.std.specs.FinMap.{get}
use Rattle.std.specs.Io.KnownBytes.{Appends}
use Rattle.loc_outside.specs.Files.{Files}
use Rattle.any_db.specs.Formats.{contents}
use Rattle.tool_words.specs.Locate.{LocateAsked}
use Rattle.locate_engine.specs.Statistics.{stats_after, stats_of}
use Rattle.locate_engine.specs.declared.outcome.Outcome.{Outcome}
use Rattle.locate_tools.specs.LocateExact.{ending_in}
use Rattle.locate_tools.specs.Tried.{text_after}
use Rattle.locate_tools.specs.declared.answer.Cause.{Cause}
use Rattle.locate_tools.specs.declared.answer.Cause.TheVariants as causes

-- the statistics of a database, where there is one
abbrev pub statistics_in : List ℕ → Option (List ℕ) → List ℕ
statistics_in name None = []
statistics_in name (Some file) = text_after (ending_in (Some file)) name (stats_after (ending_in (Some file)) (stats_of (contents file)))

abbrev pub statistics_at : Files → List ℕ → List ℕ
statistics_at files name = statistics_in name (get files name)

-- No call failed: exactly the statistics of the databases were written, and each database ends as it does.
pub record CountsAll (asked : LocateAsked) (files : Files) (taken taken' : Option (List ℕ)) (outcomes : List Outcome) (cause : Cause) : Type 0 where
  pub writes : Appends taken taken' (flat_map (statistics_at files) asked.databases)
  pub ends : outcomes ≡ map (λ name. ending_in (get files name)) asked.databases
  pub answer : cause ≡ causes.Done
