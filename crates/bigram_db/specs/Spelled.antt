-- Which files spell a list of paths, and the one of them that is written with a table.
use Rattle.std.specs.Prelude.{◌≡◌, ℕ, ◌+◌, ◌-◌, ◌≤◌, ℤ, pos, ◌+ℤ◌, ◌-ℤ◌, List, [], ◌∷◌, ◌++◌, length, drop, Option, Some, None, nat_le, ◌&&◌, if◌then◌else◌, All}
use Rattle.std.specs.Int.{w32, cast_unsigned, to_le_bytes}
use Rattle.byte_feed.specs.Prefix.{common_prefix}
use Rattle.bigram_db.specs.Pairs.{is_plain, number_of}
use Rattle.bigram_db.specs.Items.{Count, Short, Word, TextUnit, Plain, Escaped, Paired, spell_count, spell_units, amount, text_of, IsCount, IsUnit}

-- ---- all that a reader accepts

-- The piece for a path that comes after another: a spelling of the change from the old shared length to a new one, which
-- is at most that of their common prefix; then units that make the path without so many bytes.
pub record IsPiece (table before : List ℕ) (old : ℕ) (path : List ℕ) (new : ℕ) (piece : List ℕ) : Type 0 where
  pub count : Count
  pub units : List TextUnit
  pub is_count : IsCount count
  pub leads : pos old +ℤ amount count ≡ pos new
  pub common : new ≤ common_prefix before path
  pub each : All (IsUnit table) units
  pub makes : text_of table units ≡ drop new path
  pub bytes : piece ≡ spell_count count ++ spell_units units

-- one piece for each of these paths, which come after another
abbrev pub SpellsAfter : List ℕ → List ℕ → ℕ → List (List ℕ) → List ℕ → Type 0
SpellsAfter table before old [] bytes = bytes ≡ []
SpellsAfter table before old (path ∷ paths) bytes =
    (new : ℕ) × (piece : List ℕ) × (rest : List ℕ) × (bytes ≡ piece ++ rest) × IsPiece table before old path new piece × SpellsAfter table path new paths rest

-- The file spells this list of paths: a table of 128 pairs, and then a piece for each of them.
pub record SpellsBigram (paths : List (List ℕ)) (file : List ℕ) : Type 0 where
  pub table : List ℕ
  pub rest : List ℕ
  pub size : length table ≡ 256
  pub begins : file ≡ table ++ rest
  pub pieces : SpellsAfter table [] 0 paths rest

-- ---- what is written

-- a word, little endian
unfoldable pub word_of : ℤ → List ℕ
word_of value = to_le_bytes w32 (cast_unsigned w32 value)

-- one byte exactly where the change lies from -14 to 14
abbrev pub count_between : ℕ → ℕ → Count
count_between old new =
    if nat_le new (old + 14) && nat_le old (new + 14) then Short (new + 14 - old) else Word (word_of (pos (new + 14) -ℤ pos old))

abbrev pub single : ℕ → TextUnit
single b = if is_plain b then Plain b else Escaped b

-- a pair by its number, where it has one
abbrev pub pair_units : ℕ → ℕ → Option ℕ → List TextUnit
pair_units a b (Some number) = Paired number ∷ []
pair_units a b None = single a ∷ single b ∷ []

-- A text is taken two bytes by two. A last odd byte stands alone.
abbrev pub units_for : List ℕ → List ℕ → List TextUnit
units_for table [] = []
units_for table (a ∷ []) = single a ∷ []
units_for table (a ∷ b ∷ rest) = pair_units a b (number_of table (a, b)) ++ units_for table rest

-- the piece for a path after another, with the longest common prefix
abbrev pub encode_path : List ℕ → List ℕ → ℕ → List ℕ → List ℕ
encode_path table before old path =
    let new = common_prefix before path in
    spell_count (count_between old new) ++ spell_units (units_for table (drop new path))

-- the items of these paths with this table, after this path, which shares `old` bytes with the path before it
abbrev pub encode_after : List ℕ → List ℕ → ℕ → List (List ℕ) → List ℕ
encode_after table before old [] = []
encode_after table before old (path ∷ paths) = encode_path table before old path ++ encode_after table path (common_prefix before path) paths

-- the file that is written with this table
abbrev pub encode_with : List ℕ → List (List ℕ) → List ℕ
encode_with table paths = table ++ encode_after table [] 0 paths
