-- Numbers by their digits.
use Rattle.std.proofs.Common.{◌≡◌, ℕ, ◌^◌, ◌<◌, ◌≤◌, true, false, List, length, Some, None, Result, Ok, Err, rules, arith}
use Rattle.std.specs.Char.{is_ascii_digit}
use Rattle.std.specs.List.{list_all}
use Rattle.std.specs.Prelude.{IfSome}
use Rattle.std.specs.Str.Parse.{ParsesUnsigned, digits_value}
use Rattle.std.proofs.lemmas.Bool.Decides.{nat_tests}
use Rattle.std.proofs.lemmas.Result.{OkIff-at_err, OkIff-at_ok}
use Rattle.std.proofs.lemmas.Str.Parse.{IsNumeralModel, numerals_by_value, parse_digits}
use Rattle.tool_words.specs.Values.{number_up_to}
use Rattle.updatedb_conf.specs.Value.{margin_word}

own : IsNumeralModel (λ ds. list_all is_ascii_digit ds ≡ true) (digits_value 10)
own = numerals_by_value _ (search rules)

-- too many digits
pub number_up_to-long : (digits greatest : ℕ) (word : List ℕ) → digits < length word → number_up_to digits greatest word ≡ None
unfolding number_up_to
number_up_to-long digits greatest word long = grind (arith, nat_tests)

-- a byte that is no digit
pub number_up_to-other : (digits greatest : ℕ) (word : List ℕ) → list_all is_ascii_digit word ≡ false → number_up_to digits greatest word ≡ None
unfolding number_up_to
number_up_to-other digits greatest word other = grind (arith, nat_tests)

-- digits that write a number
pub number_up_to-value : (digits greatest : ℕ) (word : List ℕ) → 0 < length word → length word ≤ digits → list_all is_ascii_digit word ≡ true
    → digits_value 10 word ≤ greatest → number_up_to digits greatest word ≡ Some (digits_value 10 word)
unfolding number_up_to
number_up_to-value digits greatest word some few all small = grind (arith, nat_tests)

pub number_up_to-great : (digits greatest : ℕ) (word : List ℕ) → greatest < digits_value 10 word → number_up_to digits greatest word ≡ None
unfolding number_up_to
number_up_to-great digits greatest word great = grind (arith, nat_tests)

pub number_up_to-empty : (digits greatest : ℕ) (word : List ℕ) → length word ≡ 0 → number_up_to digits greatest word ≡ None
unfolding number_up_to
number_up_to-empty digits greatest word empty = grind (arith, nat_tests)

-- `parse` gives the number
pub parsed : {E : Type 0} (word : List ℕ) (r : Result ℕ E) (n : ℕ) → ParsesUnsigned 64 10 word r → list_all is_ascii_digit word ≡ true → r ≡ Ok n
    → (0 < length word) × (n ≡ digits_value 10 word)
parsed word r n parses all ok =
    let both = OkIff-at_ok r _ _ n (parse_digits own 64 word r parses all) ok in (both.0.0, both.1)

-- `parse` gives no number
pub not_parsed : {E : Type 0} (word : List ℕ) (r : Result ℕ E) (e : E) → ParsesUnsigned 64 10 word r → list_all is_ascii_digit word ≡ true → r ≡ Err e
    → (digits greatest : ℕ) → greatest < 2 ^ 64 → number_up_to digits greatest word ≡ None
unfolding number_up_to
not_parsed word r e parses all err digits greatest fits =
    let never : (0 < length word) × (digits_value 10 word < 2 ^ 64) → ⊥ = OkIff-at_err r _ _ e (parse_digits own 64 word r parses all) err in
    grind (arith, nat_tests)

-- a margin is at most an hour
pub margin_word_within : (text : List ℕ) → IfSome (margin_word text) (λ seconds. seconds ≤ 3600)
unfolding margin_word
margin_word_within text = grind (arith, nat_tests)
