-- Intervals: how often `{m,n}` lets a piece repeat.
use Rattle.std.specs.Prelude.{ℕ, ◌+◌, ◌-◌, ◌*◌, ◌==◌, ◌||◌, ◌&&◌, nat_le, nat_lt, nat_eq, Bool, List, length, drop, slice_index, Option, Some, None, codes, if◌then◌else◌}
use Rattle.std.specs.List.{starts_with, prefix_len}
use Rattle.std.specs.Int.{is_in_range}

abbrev pub is_digit : ℕ → Bool
is_digit byte = is_in_range 48 57 byte

-- the digit at a place
abbrev pub digit_at : List ℕ → ℕ → ℕ
digit_at text at = slice_index text at - 48

-- the value of the first one, two or three digits
unfoldable pub value_of : ℕ → List ℕ → ℕ
value_of digits text =
    if digits == 1 then digit_at text 0
    else (if digits == 2 then 10 * digit_at text 0 + digit_at text 1
    else 100 * digit_at text 0 + 10 * digit_at text 1 + digit_at text 2)

-- the number at the head of the text, of one to three digits, and how many digits it has
unfoldable pub number_at : List ℕ → Option (ℕ × ℕ)
number_at text =
    let digits = prefix_len is_digit text in
    if digits == 0 || nat_lt 3 digits then None else Some (value_of digits text, digits)

-- what closes an interval
unfoldable pub closing : Bool → List ℕ
closing extended = if extended then codes "}" else codes "\\}"

-- the least count and how many more are allowed, where the second number is at most 255 and not below the first, and how
-- many bytes the interval takes
unfoldable pub bounded : ℕ → ℕ → ℕ → Option ((ℕ × Option ℕ) × ℕ)
bounded least most taken = if nat_le least most && nat_le most 255 then Some ((least, Some (most - least)), taken) else None

-- the same where the second number is left out
unfoldable pub unbounded : ℕ → ℕ → Option ((ℕ × Option ℕ) × ℕ)
unbounded least taken = if nat_le least 255 then Some ((least, None), taken) else None

-- the rest of an interval after its comma, where a number may come first
unfoldable pub after_number : Bool → ℕ → ℕ → List ℕ → Option (ℕ × ℕ) → Option ((ℕ × Option ℕ) × ℕ)
after_number extended least taken text None = None
after_number extended least taken text (Some most) =
    if starts_with nat_eq (drop most.1 text) (closing extended)
    then bounded least most.0 (taken + most.1 + length (closing extended)) else None

-- the rest of an interval after its first number, which took so many bytes
unfoldable pub after_first : Bool → ℕ → ℕ → List ℕ → Option ((ℕ × Option ℕ) × ℕ)
after_first extended least taken text =
    if starts_with nat_eq text (closing extended) then bounded least least (taken + length (closing extended))
    else (if starts_with nat_eq text (codes ",")
    then (if starts_with nat_eq (drop 1 text) (closing extended)
    then unbounded least (taken + 1 + length (closing extended))
    else after_number extended least (taken + 1) (drop 1 text) (number_at (drop 1 text)))
    else None)

-- the interval whose opening comes right before the text, and how many bytes of the text it takes
unfoldable pub interval_or : Bool → List ℕ → Option (ℕ × ℕ) → Option ((ℕ × Option ℕ) × ℕ)
interval_or extended text None = None
interval_or extended text (Some least) = after_first extended least.0 least.1 (drop least.1 text)

abbrev pub interval_at : Bool → List ℕ → Option ((ℕ × Option ℕ) × ℕ)
interval_at extended text = interval_or extended text (number_at text)
