-- What regular expressions want, told by a test.
use Rattle.std.proofs.Common.{◌≡◌, ℕ, Bool, true, false, List, length, Result, Ok, Err, cond, ap}
use Rattle.std.specs.Prelude.{All, Any, IsOkAnd, MatchBool}
use Rattle.std.specs.Bool.{Decides}
use Rattle.std.specs.List.{list_any, list_all}
use Rattle.std.proofs.lemmas.List.Folds.{Any-from_list_any, list_any-from_Any}
use Rattle.std.proofs.lemmas.List.Sums.{AllPass-from_list_all, list_all-from_AllPass}
use Rattle.posix_regex.specs.Expression.{Expression, Found}
use Rattle.posix_regex.specs.Finds.{finds}
use Rattle.posix_regex.specs.Program.{Item, items_of}
use Rattle.posix_regex.specs.declared.fault.RegexFault.{RegexFault}
use Rattle.posix_regex.proofs.Finds.{finds_found, found_finds}
use Rattle.locate_engine.specs.Globs.{judged}
use Rattle.locate_tools.specs.Regexes.{RegexAsked, FoundIn, Wants, finds_read, found_in, items_read, reading, wanted_by}

-- ---- one expression

-- what its items tell
pub found_is : (r : Result Expression RegexFault) (text : List ℕ) (items : List Item) (b : Bool) → IsOkAnd r (λ e. items ≡ items_of e)
    → ((e : Expression) → items ≡ items_of e → b ≡ finds e text) → b ≡ finds_read text r
found_is (Ok e) text items b is told = told e is
found_is (Err fault) text items b is told = absurd is

pub items_is : (r : Result Expression RegexFault) (items : List Item) → IsOkAnd r (λ e. items ≡ items_of e) → length items ≡ items_read r
items_is (Ok e) items is = ap length is
items_is (Err fault) items is = absurd is

read_is : (r : Result Expression RegexFault) (text : List ℕ) → Decides (finds_read text r) (IsOkAnd r (λ e. Found e text))
read_is (Ok e) text = (finds_found e text, found_finds e text)
read_is (Err fault) text = (λ e. absurd cc, λ h. absurd h)

-- ---- all expressions

pub wanted_is : (regexes : List RegexAsked) (all base : Bool) (path : List ℕ) → Decides (wanted_by regexes all (judged base path)) (Wants regexes all base path)
wanted_is regexes all base path = by all
  where
    text : List ℕ
    text = judged base path

    is : (regex : RegexAsked) → Decides (found_in text regex) (FoundIn text regex)
    is regex = read_is (reading regex) text

    by : (all : Bool) → Decides (cond all (list_all (found_in text) regexes) (list_any (found_in text) regexes)) (MatchBool all (All (FoundIn text) regexes) (Any (FoundIn text) regexes))
    by true = (
      λ e k d lt. (is _).0 (AllPass-from_list_all (found_in text) regexes e k d lt),
      λ h. list_all-from_AllPass (found_in text) regexes (λ k d lt. (is _).1 (h k d lt)),
    )
    by false = (
      λ e. let a = Any-from_list_any (found_in text) regexes e in (a.0, a.1, a.2, a.3, (is a.1).0 a.4),
      λ h. list_any-from_Any (found_in text) regexes (h.0, h.1, h.2, h.3, (is h.1).1 h.4),
    )
