-- The items of a plain list of paths: each path with the mark that ends it, a newline or a zero byte. The last path of a
-- file may lack its mark. Whether it has one is part of the item, so that each item has one spelling.
use Rattle.std.specs.Prelude.{◌≡◌, ◌≢◌, ℕ, ◌+◌, Bool, true, false, List, [], ◌∷◌, ◌++◌, length, take, Some, Result, Ok, Err, nat_lt, nat_le, ◌==◌, ◌&&◌, if◌then◌else◌, All}
use Rattle.std.specs.List.{before_first, after_first, list_all}
use Rattle.byte_feed.specs.declared.damage.DamageCause.TheVariants.{Cut, LongPath, EmptyPath, ZeroChar}
use Rattle.byte_feed.specs.declared.damage.Stop.{Stop}
use Rattle.byte_feed.specs.declared.damage.Stop.TheVariants.{Broken}
use Rattle.byte_feed.specs.Field.{Reads, ◌>>=◌, demand, max_path}
use Rattle.byte_feed.specs.Front.{Format}
use Rattle.byte_feed.specs.Paths.{IsPath, before_base}

-- ---- what an item holds, and how it is spelled

-- A path, with the mark that ends it or, at the end of the file, without.
pub data Item : Type 0 where
  Marked : (path : List ℕ) → Item
  Unmarked : (path : List ℕ) → Item

abbrev pub path_in : Item → List ℕ
path_in (Marked path) = path
path_in (Unmarked path) = path

-- a path and its mark
abbrev pub marked : ℕ → List ℕ → List ℕ
marked mark path = path ++ mark ∷ []

abbrev pub spell : ℕ → Item → List ℕ
spell mark (Marked path) = marked mark path
spell mark (Unmarked path) = path

-- ---- which items may come

-- a path that does not hold the mark
pub record IsListed (mark : ℕ) (path : List ℕ) : Type 0 where
  pub is_path : IsPath path
  pub bare : All (λ b. b ≢ mark) path

-- A path without its mark comes last, and the file ends with it.
abbrev pub allowed : ℕ → Item → Bool → List ℕ → Type 0
allowed mark (Marked path) last rest = IsListed mark path
allowed mark (Unmarked path) last rest = IsListed mark path × (last ≡ true) × (rest ≡ [])

-- ---- reading an item

abbrev pub is_mark : ℕ → ℕ → Bool
is_mark mark b = b == mark

-- None of its first 4,097 bytes is zero, and it has at most 4,096. So a zero byte is told before the length.
abbrev pub path_test : List ℕ → Result (Unit {0}) Stop
path_test path = do
  plain ← demand (list_all (nat_lt 0) (take (max_path + 1) path)) ZeroChar
  demand (nat_le (length path) max_path) LongPath

-- a path whose mark stands before the rest
abbrev pub marked_at : List ℕ → Reads Item
marked_at path rest = do
  some ← demand (nat_lt 0 (length path)) EmptyPath
  Ok (Marked path, rest)

-- Bytes without a mark are a path where the file ends with them. Else the mark may still come.
abbrev pub unmarked_at : Bool → Reads Item
unmarked_at last bytes = if last && nat_lt 0 (length bytes) then Ok (Unmarked bytes, []) else Err (Broken Cut)

-- the bytes before the first mark, or all
abbrev pub path_at : ℕ → List ℕ → List ℕ
path_at mark bytes = before_first (is_mark mark) bytes

unfoldable pub item_at : ℕ → Bool → Reads Item
item_at mark last bytes = do
  good ← path_test (path_at mark bytes)
  if nat_lt (length (path_at mark bytes)) (length bytes) then marked_at (path_at mark bytes) (after_first (is_mark mark) bytes) else unmarked_at last bytes

-- ---- the formats

-- Nothing stands before the first path and nothing is kept between two. The file may end before any path. No item is a
-- directory's head, and paths are shown to all.
abbrev pub list_by : ℕ → Format
list_by mark = record {
  State = Unit {0};
  Item = Item;
  begin = tt;
  allowed = λ s i last rest. allowed mark i last rest;
  after = λ s i. s;
  spell = spell mark;
  path_of = λ s i. Some (path_in i, before_base (path_in i));
  head_of = λ i. 0;
  gate_of = λ i. false;
  may_end = λ s. true;
  item_at = λ last s bytes. item_at mark last bytes;
}
