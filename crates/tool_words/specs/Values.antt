-- What single words mean.
use Rattle.std.specs.Prelude.{ℕ, Bool, List, ◌∷◌, [], Option, Some, None, codes, length, map, nat_lt, nat_le, ◌==◌, ◌&&◌, option_map, option_and_then, if◌then◌else◌}
use Rattle.std.specs.Char.{is_ascii_digit}
use Rattle.std.specs.List.{list_all, slice_split}
use Rattle.std.specs.Str.{bytes_eq}
use Rattle.std.specs.Str.Parse.{digits_value}
use Rattle.clap.specs.Words.{Text}
use Rattle.path_order.specs.Path.{is_normal}

-- one step after another, where the first gives something
infixl 10 ◌>>=◌
abbrev pub ◌>>=◌ : {A B : Type 0} → Option A → (A → Option B) → Option B
a >>= f = option_and_then f a

-- the value of an option is read: nothing where it is not given, and refused where it can't be read
abbrev pub read_by : {A : Type 0} → (Text → Option A) → Option Text → Option (Option A)
read_by read None = Some None
read_by read (Some word) = option_map (λ value. Some value) (read word)

-- ---- numbers

-- 1 to so many decimal digits, which write a number of at most `greatest`
abbrev pub is_number : ℕ → ℕ → Text → Bool
is_number digits greatest word = nat_lt 0 (length word) && (nat_le (length word) digits
    && (list_all is_ascii_digit word && nat_le (digits_value 10 word) greatest))

-- the number that such a word writes
unfoldable pub number_up_to : ℕ → ℕ → Text → Option ℕ
number_up_to digits greatest word = if is_number digits greatest word then Some (digits_value 10 word) else None

-- a number: 1 to 20 digits, below 2^64
abbrev pub number_word : Text → Option ℕ
number_word = number_up_to 20 18446744073709551615

-- a number of rounds: 1 to 20 digits, at most 100
abbrev pub rounds_word : Text → Option ℕ
rounds_word = number_up_to 20 100

-- a version of the database: `0` or `1`
unfoldable pub version_word : Text → Option ℕ
version_word word =
    if bytes_eq word (codes "0") then Some 0
    else (if bytes_eq word (codes "1") then Some 1 else None)

-- ---- texts

-- a word is a normal path
unfoldable pub is_normal_path : Text → Bool
is_normal_path word = is_normal word

-- ---- names of databases

abbrev pub default_database : Text
default_database = codes "/var/lib/mlocate/mlocate.db"

-- an empty name stands for the default
abbrev pub or_default : Text → Text
or_default [] = default_database
or_default (byte ∷ name) = byte ∷ name

-- the names between colons (58)
unfoldable pub names_in : Text → List Text
names_in list = map or_default (slice_split (λ byte. byte == 58) list)
