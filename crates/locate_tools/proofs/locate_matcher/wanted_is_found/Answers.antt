use Rattle.std.proofs.Common.{◌≡◌, ◌↔◌, List, ℕ, Bool, IsTrue, if◌then◌else◌, sym, subst}
use Rattle.tool_words.specs.LocateSeen.{seen}
use Rattle.locate_engine.specs.Globs.{sought_of}
use Rattle.locate_engine.specs.Sought.{Sought}
use Rattle.locate_tools.specs.LocateExact.{query_of}
use Rattle.locate_tools.specs.Regexes.{Wants, sought_of as sought_of_regexes}
use Rattle.locate_tools.specs.RegexesAsked.{regexes_of}
use Rattle.locate_tools.proofs.Expressions.{wanted_is}
use Rattle.locate_tools.proofs.locate_matcher.wanted_is_found.Goals as goal

pub returns : goal.returns
returns c = λ seeks.
    let asked = seen c.args._asked.now in
    let regexes = regexes_of asked in
    subst
    (λ (b : Bool). IsTrue ((if b then sought_of_regexes regexes asked.all asked.base else sought_of (query_of asked)).wanted c.args._path.now) ↔ Wants regexes asked.all asked.base c.args._path.now)
    (sym seeks) (wanted_is regexes asked.all asked.base c.args._path.now)
