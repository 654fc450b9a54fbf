-- Regular expressions that are asked for, and which paths they want.
use Rattle.std.specs.Prelude.{ℕ, ◌+◌, ◌*◌, Bool, false, List, length, Result, Ok, Err, IsOkAnd, All, Any, MatchBool, sum_by, if◌then◌else◌}
use Rattle.std.specs.List.{list_all, list_any}
use Rattle.locate_engine.specs.Globs.{judged}
use Rattle.locate_engine.specs.Sought.{Sought}
use Rattle.posix_regex.specs.Expression.{Expression, Found}
use Rattle.posix_regex.specs.Finds.{finds}
use Rattle.posix_regex.specs.Pattern.{expression_at}
use Rattle.posix_regex.specs.Program.{items_of}
use Rattle.posix_regex.specs.declared.fault.RegexFault.{RegexFault}

-- an expression as it is asked for: its pattern, in extended syntax or in basic, and whether letters match in either case
pub record RegexAsked : Type 0 where
  pub pattern : List ℕ
  pub extended : Bool
  pub fold : Bool

-- what it stands for, or why it is refused
abbrev pub reading : RegexAsked → Result Expression RegexFault
reading asked = expression_at asked.extended asked.fold asked.pattern

-- ---- the texts in which it is found

abbrev pub FoundIn : List ℕ → RegexAsked → Type 0
FoundIn text asked = IsOkAnd (reading asked) (λ expression. Found expression text)

-- the same, told by a test
abbrev pub finds_read : List ℕ → Result Expression RegexFault → Bool
finds_read text (Ok expression) = finds expression text
finds_read text (Err fault) = false

abbrev pub found_in : List ℕ → RegexAsked → Bool
found_in text asked = finds_read text (reading asked)

-- the most steps that this takes
abbrev pub items_read : Result Expression RegexFault → ℕ
items_read (Ok expression) = length (items_of expression)
items_read (Err fault) = 0

abbrev pub steps_of : List ℕ → RegexAsked → ℕ
steps_of text asked = (items_read (reading asked) + 1) * (length text + 1)

-- ---- what several want

-- A path is wanted where every expression is found in it, or where one is; or, with `base`, in what follows its last slash.
abbrev pub Wants : List RegexAsked → Bool → Bool → List ℕ → Type 0
Wants regexes all base path = MatchBool all (All (FoundIn (judged base path)) regexes) (Any (FoundIn (judged base path)) regexes)

-- the same, told by a test
abbrev pub wanted_by : List RegexAsked → Bool → List ℕ → Bool
wanted_by regexes all text = if all then list_all (found_in text) regexes else list_any (found_in text) regexes

-- what they want, and the steps that this takes
abbrev pub sought_of : List RegexAsked → Bool → Bool → Sought
sought_of regexes all base = record {
  wanted = λ path. wanted_by regexes all (judged base path);
  bound = λ path. sum_by (steps_of (judged base path)) regexes;
}
