-- Decimal numbers, digit after digit, and the two numbers of a device.
use Rattle.std.proofs.Common.{◌≡◌, ℕ, ◌+◌, ◌*◌, ◌-◌, ◌<◌, ◌≤◌, List, [], ◌∷◌, ◌++◌, length, get_or, take, drop, refl, sym, ◌∙◌, ap, arith, Bool, true, false, not, cond, Some, None, Option, inl, inr}
use Rattle.std.proofs.lemmas.Bool.{cases_lt, lt-leb, le-leb, and_right, and_from}
use Rattle.std.proofs.lemmas.Bool.Decides.{nat_tests}
use Rattle.std.proofs.lemmas.Int.Digits.{digits_value_more}
use Rattle.std.proofs.lemmas.List.{take-append-drop}
use Rattle.std.proofs.lemmas.List.Folds.{list_all_at, list_all_more}
use Rattle.std.proofs.lemmas.List.Splits.{slice_split_none, slice_split_first}
use Rattle.std.proofs.lemmas.List.Sums.{fails_before_first, passes_at_first}
use Rattle.std.specs.Char.{is_ascii_digit, digit_value}
use Rattle.std.specs.List.{list_all, slice_split, onto_first, position, position_or_len, before_first, after_first}
use Rattle.std.specs.Prelude.{nat_le, ◌&&◌}
use Rattle.mount_table.specs.Line.{is_not_empty}
use Rattle.mount_table.proofs.Positions.{position_some}
use Rattle.std.specs.Str.Parse.{digits_value, digits_value_after}
use Rattle.std.specs.Option.{option_zip}
use Rattle.mount_table.specs.Device.{has_leading_zero, is_decimal, decimal_number, numbers_of, is_colon, device_numbers}
use Rattle.mount_table.specs.Part.{digits_number}

-- the value of a digit
pub digit_is : (c : ℕ) → is_ascii_digit c ≡ true → digit_value c ≡ c - 48
digit_is c e = grind (arith, nat_tests)

-- more digits make no smaller number
after_ge : (n : ℕ) (digits : List ℕ) → n ≤ digits_value_after 10 n digits
after_ge n [] = omega arith
after_ge n (c ∷ digits) = let h = after_ge (n * 10 + digit_value c) digits in omega arith

after_append : (n : ℕ) (xs ys : List ℕ) → digits_value_after 10 n (xs ++ ys) ≡ digits_value_after 10 (digits_value_after 10 n xs) ys
after_append n [] ys = refl
after_append n (x ∷ xs) ys = after_append (n * 10 + digit_value x) xs ys

-- the first digits write no larger number than all
pub digits_value-take : (i : ℕ) (digits : List ℕ) → digits_value 10 (take i digits) ≤ digits_value 10 digits
digits_value-take i digits =
    let whole : digits_value 10 digits ≡ digits_value_after 10 (digits_value 10 (take i digits)) (drop i digits) = ap (digits_value 10) (sym (take-append-drop i digits)) ∙ after_append 0 (take i digits) (drop i digits) in
    let more = after_ge (digits_value 10 (take i digits)) (drop i digits) in
    omega arith

-- one more digit
pub digits_value-next : (i : ℕ) (digits : List ℕ) → i < length digits → is_ascii_digit (get_or digits i 0) ≡ true → digits_value 10 (take (i + 1) digits) ≡ digits_value 10 (take i digits) * 10 + (get_or digits i 0 - 48)
digits_value-next i digits h e = digits_value_more 10 digits i h ∙ ap (λ (d : ℕ). digits_value 10 (take i digits) * 10 + d) (digit_is _ e)

-- a byte that is no digit
pub digits_number-other : (i : ℕ) (digits : List ℕ) → i < length digits → is_ascii_digit (get_or digits i 0) ≡ false → digits_number digits ≡ None
unfolding digits_number
digits_number-other i digits h e = rw (list_all_at is_ascii_digit digits i 0 h e) refl

-- the first digits write a number that is too large
pub digits_number-large : (i : ℕ) (digits : List ℕ) → 4294967295 < digits_value 10 (take i digits) → digits_number digits ≡ None
unfolding digits_number
digits_number-large i digits h =
    let more = digits_value-take i digits in
    rw (and_right (list_all is_ascii_digit digits) (nat_le (digits_value 10 digits) 4294967295) (lt-leb _ _ (omega arith))) refl

-- digits alone, and no large number
pub digits_number-some : (digits : List ℕ) (n : ℕ) → list_all is_ascii_digit digits ≡ true → n ≡ digits_value 10 digits → n ≤ 4294967295 → Some n ≡ digits_number digits
unfolding digits_number
digits_number-some digits n all is small = rw (all, le-leb (digits_value 10 digits) 4294967295 (omega arith)) (ap Some is)

-- digits so far, and one more
pub all_digits_next : (i : ℕ) (digits : List ℕ) → i < length digits → list_all is_ascii_digit (take i digits) ≡ true → is_ascii_digit (get_or digits i 0) ≡ true → list_all is_ascii_digit (take (i + 1) digits) ≡ true
all_digits_next i digits h all e = list_all_more is_ascii_digit digits i 0 h ∙ and_from _ _ all e

-- a text that has a colon is no number
digits_number-colon : (text : List ℕ) → position_or_len is_colon text < length text → digits_number text ≡ None
digits_number-colon text h = digits_number-other (position_or_len is_colon text) text h (no_digit _ (passes_at_first is_colon text 0 h))
  where
    no_digit : (x : ℕ) → is_colon x ≡ true → is_ascii_digit x ≡ false
    no_digit x e = grind (arith, nat_tests)

-- no number is written
pub decimal_number-nil : (text : List ℕ) → length text ≡ 0 → decimal_number text ≡ None
unfolding is_decimal decimal_number
decimal_number-nil [] e = refl
decimal_number-nil (x ∷ text) e = absurd (omega arith)

-- a zero before other bytes
pub decimal_number-zero : (text : List ℕ) → has_leading_zero text ≡ true → decimal_number text ≡ None
unfolding is_decimal decimal_number
decimal_number-zero text e = rw (e, and_right (is_not_empty text && list_all is_ascii_digit text) false refl) refl

-- tests that hold change nothing
and_kept : (a b : Bool) (n : ℕ) → cond (a && true && b) (Some n) None ≡ cond (a && b) (Some n) None
and_kept true b n = refl
and_kept false b n = refl

-- digits without such a zero
pub decimal_number-digits : (text : List ℕ) → 0 < length text → has_leading_zero text ≡ false → decimal_number text ≡ digits_number text
unfolding is_decimal decimal_number digits_number
decimal_number-digits [] some start = absurd (omega arith)
decimal_number-digits (x ∷ text) some start = rw start (and_kept (list_all is_ascii_digit (x ∷ text)) (nat_le (digits_value 10 (x ∷ text)) 4294967295) (digits_value 10 (x ∷ text)))

-- more tests pass no more
none_more : (a b c d : Bool) (n : ℕ) → cond (b && d) (Some n) None ≡ None → cond (a && b && c && d) (Some n) None ≡ None
none_more false b c d n e = refl
none_more true false c d n e = refl
none_more true true false d n e = refl
none_more true true true d n e = e

decimal_number-none : (text : List ℕ) → digits_number text ≡ None → decimal_number text ≡ None
unfolding is_decimal decimal_number digits_number
decimal_number-none text e = none_more (is_not_empty text) (list_all is_ascii_digit text) (not (has_leading_zero text)) (nat_le (digits_value 10 text) 4294967295) (digits_value 10 text) e

pub both-none : (o : Option ℕ) → option_zip {U = ℕ} o None ≡ None
both-none None = refl
both-none (Some n) = refl

-- a second part that is split again gives none
numbers-many : (major : List ℕ) (first : List ℕ) (rest : List ℕ) → numbers_of (major ∷ first ∷ slice_split is_colon rest) ≡ None
numbers-many major first [] = refl
numbers-many major first (x ∷ rest) = by (is_colon x)
  where
    under : (parts : List (List ℕ)) → numbers_of (major ∷ first ∷ onto_first x parts) ≡ None
    under [] = refl
    under (part ∷ parts) = refl

    by : (b : Bool) → numbers_of (major ∷ first ∷ cond b ([] ∷ slice_split is_colon rest) (onto_first x (slice_split is_colon rest))) ≡ None
    by true = refl
    by false = under (slice_split is_colon rest)

-- what follows the first colon is one number, or there is none
pub numbers-second : (major text : List ℕ) → numbers_of (major ∷ slice_split is_colon text) ≡ option_zip (decimal_number major) (decimal_number text)
numbers-second major text = elim (cases_lt (position_or_len is_colon text) (length text)) [
  | inl within ↦
      ap (λ (parts : List (List ℕ)). numbers_of (major ∷ parts)) (slice_split_first is_colon text 0 within)
      ∙ numbers-many major (before_first is_colon text) (after_first is_colon text)
      ∙ sym (ap (option_zip (decimal_number major)) (decimal_number-none text (digits_number-colon text within)) ∙ both-none _)
  | inr past ↦
      ap (λ (parts : List (List ℕ)). numbers_of (major ∷ parts)) (slice_split_none is_colon text (λ k d h. fails_before_first is_colon text k d (omega arith)))
]

-- a field without a colon
pub device_numbers-none : (field : List ℕ) → position_or_len is_colon field ≡ length field → device_numbers field ≡ None
unfolding device_numbers
device_numbers-none field e = ap numbers_of (slice_split_none is_colon field (λ k d h. fails_before_first is_colon field k d (omega arith)))

-- a field by its first colon
pub device_numbers-at : (field : List ℕ) → position_or_len is_colon field < length field → device_numbers field ≡ option_zip (decimal_number (before_first is_colon field)) (decimal_number (after_first is_colon field))
unfolding device_numbers
device_numbers-at field h = ap numbers_of (slice_split_first is_colon field 0 h) ∙ numbers-second (before_first is_colon field) (after_first is_colon field)

-- the numbers of a field that is cut at its colon
pub device_numbers-cut : (field front back : List ℕ) (colon : ℕ) → position is_colon field ≡ Some colon → front ≡ take colon field → back ≡ drop (colon + 1) field → device_numbers field ≡ option_zip (decimal_number front) (decimal_number back)
device_numbers-cut field front back colon at is_front is_back =
    let place = position_some is_colon field colon at in
    device_numbers-at field (omega (arith, place.0, place.1))
    ∙ (λ i. option_zip (decimal_number ((ap (λ (n : ℕ). take n field) place.0 ∙ sym is_front) i)) (decimal_number ((ap (λ (n : ℕ). drop (n + 1) field) place.0 ∙ sym is_back) i)))
