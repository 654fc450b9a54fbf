-- The regular expressions that the words of `locate` ask for, and the first that is refused.
use Rattle.std.specs.Prelude.{ℕ, ◌+◌, Bool, true, false, List, [], ◌∷◌, map, Option, Some, None, Result, Ok, Err, if◌then◌else◌}
use Rattle.posix_regex.specs.Expression.{Expression}
use Rattle.posix_regex.specs.declared.fault.RegexFault.{RegexFault}
use Rattle.tool_words.specs.Locate.{LocateAsked, seeks_expressions}
use Rattle.locate_tools.specs.Regexes.{RegexAsked, reading}
use Rattle.locate_tools.specs.declared.answer.Cause.{Cause}
use Rattle.locate_tools.specs.declared.answer.Cause.TheVariants as causes

-- the expressions of these patterns
abbrev pub regexes_by : Bool → Bool → List (List ℕ) → List RegexAsked
regexes_by extended fold patterns = map (λ pattern. record { pattern = pattern; extended = extended; fold = fold }) patterns

-- the basic expression of -r, or the patterns as extended ones
abbrev pub regexes_given : Option (List ℕ) → List (List ℕ) → Bool → List RegexAsked
regexes_given (Some pattern) patterns fold = regexes_by false fold (pattern ∷ [])
regexes_given None patterns fold = regexes_by true fold patterns

-- the expressions of the words, in their order
abbrev pub regexes_of : LocateAsked → List RegexAsked
regexes_of asked = regexes_given asked.regexp asked.patterns asked.fold

-- ---- the first that is refused

-- the cause for the expression of this number, if it is refused
abbrev pub refused_or : ℕ → Result Expression RegexFault → Option Cause → Option Cause
refused_or number (Ok expression) later = later
refused_or number (Err fault) later = Some (causes.BadRegex number fault.place fault.cause)

-- the cause for the first expression that is refused, where the numbers begin here
abbrev pub first_refused : ℕ → List RegexAsked → Option Cause
first_refused number [] = None
first_refused number (regex ∷ regexes) = refused_or number (reading regex) (first_refused (number + 1) regexes)

-- why the words are refused that ask for a search of expressions: the first of them that is refused
abbrev pub refusal_of : LocateAsked → Option Cause
refusal_of asked = if seeks_expressions asked then first_refused 0 (regexes_of asked) else None
