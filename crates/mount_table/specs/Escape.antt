-- Bytes that are written as a backslash and three octal digits.
use Rattle.std.specs.Prelude.{ℕ, zero, suc, Bool, ◌&&◌, ◌==◌, List, [], ◌∷◌, length, take, Option, Some, None, if◌then◌else◌}
use Rattle.std.specs.Int.{is_in_range}
use Rattle.std.specs.List.{list_all}
use Rattle.std.specs.Str.Parse.{digits_value}

-- the byte that begins an escape
abbrev pub is_backslash : ℕ → Bool
is_backslash byte = byte == 92

-- the byte is an octal digit
abbrev pub is_octal_digit : ℕ → Bool
is_octal_digit byte = is_in_range 48 55 byte

-- the byte that three octal digits write, where their value is from 1 to 255
unfoldable pub octal_byte : List ℕ → Option ℕ
octal_byte digits =
    if length digits == 3 && list_all is_octal_digit digits && is_in_range 1 255 (digits_value 8 digits)
    then Some (digits_value 8 digits) else None

-- a byte before the rest of a text, where both are there
abbrev pub before_rest : Option ℕ → Option (List ℕ) → Option (List ℕ)
before_rest (Some byte) (Some rest) = Some (byte ∷ rest)
before_rest (Some byte) None = None
before_rest None rest = None

-- past some bytes, the text with the byte of each escape in the escape's place; none where a backslash begins no escape
unfoldable pub unescaped_past : ℕ → List ℕ → Option (List ℕ)
unescaped_past skip [] = Some []
unescaped_past (suc skip) (x ∷ text) = unescaped_past skip text
unescaped_past zero (x ∷ text) =
    if is_backslash x then before_rest (octal_byte (take 3 text)) (unescaped_past 3 text)
    else before_rest (Some x) (unescaped_past 0 text)

-- the text with the byte of each escape in the escape's place
abbrev pub unescaped : List ℕ → Option (List ℕ)
unescaped text = unescaped_past 0 text
