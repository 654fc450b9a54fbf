-- The matcher of the words of `locate`, as contracts see it.
use Rattle.std.specs.Prelude.{ℕ, List, ⊤}
use Rattle.locate_engine.specs.Globs.{sought_of}
use Rattle.locate_engine.specs.Kept.{KnowsPath}
use Rattle.locate_engine.specs.Sought.{Sought}
use Rattle.locate_tools.specs.Regexes.{sought_of as sought_of_regexes}
use Rattle.locate_tools.specs.declared.locate_matcher.LocateMatcher.{LocateMatcher}
use Rattle.locate_tools.specs.declared.locate_matcher.LocateMatcher.TheVariants as matchers

-- what it looks for
abbrev pub sought_in : LocateMatcher → Sought
sought_in (matchers.Globs kept) = sought_of kept.query
sought_in (matchers.Regexes matcher) = sought_of_regexes matcher.regexes.items matcher.all matcher.base

-- what it knows of a path
abbrev pub knows_in : LocateMatcher → List ℕ → Type 0
knows_in (matchers.Globs kept) path = KnowsPath kept path
knows_in (matchers.Regexes matcher) path = ⊤
