-- The numbers of a device.
use Rattle.std.specs.Prelude.{ℕ, ◌+◌, ◌*◌, Bool, not, ◌&&◌, ◌==◌, nat_lt, nat_le, List, [], ◌∷◌, length, slice_index, Option, Some, None, if◌then◌else◌}
use Rattle.std.specs.Char.{is_ascii_digit}
use Rattle.std.specs.List.{list_all, slice_split}
use Rattle.std.specs.Option.{option_zip}
use Rattle.std.specs.Str.Parse.{digits_value}
use Rattle.mount_table.specs.Line.{is_not_empty}

-- a zero (48) stands before other bytes
abbrev pub has_leading_zero : List ℕ → Bool
has_leading_zero text = slice_index text 0 == 48 && nat_lt 1 (length text)

-- the text is a decimal number: digits, without a leading zero
unfoldable pub is_decimal : List ℕ → Bool
is_decimal text = is_not_empty text && list_all is_ascii_digit text && not (has_leading_zero text)

-- the decimal number of at most 32 bits that a text is
unfoldable pub decimal_number : List ℕ → Option ℕ
decimal_number text = if is_decimal text && nat_le (digits_value 10 text) 4294967295 then Some (digits_value 10 text) else None

-- the numbers of two parts
abbrev pub numbers_of : List (List ℕ) → Option (ℕ × ℕ)
numbers_of [] = None
numbers_of (major ∷ []) = None
numbers_of (major ∷ minor ∷ []) = option_zip (decimal_number major) (decimal_number minor)
numbers_of (major ∷ minor ∷ more ∷ parts) = None

-- the colon between the numbers of a device
abbrev pub is_colon : ℕ → Bool
is_colon byte = byte == 58

-- the major and the minor number that a field writes, with one colon between
unfoldable pub device_numbers : List ℕ → Option (ℕ × ℕ)
device_numbers field = numbers_of (slice_split is_colon field)

-- a device in one number of 32 bits, 12 for the major number and 20 for the minor; 0 where either is larger
unfoldable pub packed_device : ℕ → ℕ → ℕ
packed_device major minor = if nat_le major 4095 && nat_le minor 1048575 then major * 1048576 + minor else 0
