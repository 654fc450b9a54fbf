-- Which files spell a list of paths, and the one of them that is written.
use Rattle.std.specs.Prelude.{◌≡◌, ℕ, ◌+◌, ◌≤◌, pos, ◌+ℤ◌, ◌-ℤ◌, List, [], ◌∷◌, ◌++◌, drop, nat_le, ◌&&◌, if◌then◌else◌}
use Rattle.byte_feed.specs.Field.{ended}
use Rattle.byte_feed.specs.Prefix.{common_prefix}
use Rattle.locate02_db.specs.declared.change.Change.{Change}
use Rattle.locate02_db.specs.declared.change.Change.TheVariants.{Short, Long}
use Rattle.locate02_db.specs.Items.{magic, spell_change, IsChange, amount}

-- ---- all that a reader accepts

-- The piece for a path that comes after another: a spelling of the change from the old shared length to a new one, which
-- is at most that of their common prefix; then the path without so many bytes, and a zero byte.
pub record IsPiece (before : List ℕ) (old : ℕ) (path : List ℕ) (new : ℕ) (piece : List ℕ) : Type 0 where
  pub change : Change
  pub fits : IsChange change
  pub leads : pos old +ℤ amount change ≡ pos new
  pub common : new ≤ common_prefix before path
  pub bytes : piece ≡ spell_change change ++ ended (drop new path)

-- one piece for each of these paths, which come after another
abbrev pub SpellsAfter : List ℕ → ℕ → List (List ℕ) → List ℕ → Type 0
SpellsAfter before old [] bytes = bytes ≡ []
SpellsAfter before old (path ∷ paths) bytes =
    (new : ℕ) × (piece : List ℕ) × (rest : List ℕ) × (bytes ≡ piece ++ rest) × IsPiece before old path new piece × SpellsAfter path new paths rest

-- The file spells this list of paths: the preamble, and then a piece for each of them.
pub record Spells02 (paths : List (List ℕ)) (file : List ℕ) : Type 0 where
  pub rest : List ℕ
  pub begins : file ≡ magic ++ rest
  pub pieces : SpellsAfter [] 0 paths rest

-- ---- what is written

-- the long form exactly where the change lies outside -127 to 127
abbrev pub change_between : ℕ → ℕ → Change
change_between old new =
    let change = pos new -ℤ pos old in
    if nat_le new (old + 127) && nat_le old (new + 127) then Short change else Long change

-- the piece for a path after another, with the longest common prefix
abbrev pub encode_path : List ℕ → ℕ → List ℕ → List ℕ
encode_path before old path =
    let new = common_prefix before path in
    spell_change (change_between old new) ++ ended (drop new path)

-- the entries of these paths, after this path, which shares `old` bytes with the path before it
abbrev pub encode_after : List ℕ → ℕ → List (List ℕ) → List ℕ
encode_after before old [] = []
encode_after before old (path ∷ paths) = encode_path before old path ++ encode_after path (common_prefix before path) paths

abbrev pub encode02 : List (List ℕ) → List ℕ
encode02 paths = magic ++ encode_after [] 0 paths
