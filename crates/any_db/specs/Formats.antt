-- The formats of databases, told apart by the bytes that a file begins with, and what a file of any of them gives.
use Rattle.std.specs.Prelude.{◌≡◌, ℕ, ◌<◌, Bool, true, false, List, take, Option, Some, None, unwrap_or, nat_eq, if◌then◌else◌}
use Rattle.std.specs.List.{starts_with}
use Rattle.byte_feed.specs.Front.{Format, Window, limit, readable}
use Rattle.byte_feed.specs.Paths.{PathAt, ToCome, to_come, preamble_of}
use Rattle.mlocate_db.specs.Items.{mlocate, magic as mlocate_magic}
use Rattle.locate02_db.specs.Items.{locate02, magic as locate02_magic}
use Rattle.bigram_db.specs.Pairs.{is_bigram}
use Rattle.bigram_db.specs.Items.{bigram}
use Rattle.any_db.specs.declared.format.DatabaseFormat.{DatabaseFormat}
use Rattle.any_db.specs.declared.format.DatabaseFormat.TheVariants.{Mlocate, Locate02, Bigram}

-- The format of a file, by the bytes that it begins with: those of mlocate, those of LOCATE02, or else a table of pairs. A
-- file that begins with none of these is no database, and so is the empty one.
unfoldable pub format_of : List ℕ → Option DatabaseFormat
format_of bytes =
    if starts_with nat_eq bytes mlocate_magic then Some Mlocate else
    if starts_with nat_eq bytes locate02_magic then Some Locate02 else
    if is_bigram bytes then Some Bigram else
    None

-- The format that a file is read in. What is no database is read as a bigram database, and refused where its table is.
abbrev pub read_as : List ℕ → DatabaseFormat
read_as bytes = unwrap_or (format_of bytes) Bigram

-- what the items of a format are
abbrev pub items_in : DatabaseFormat → Format
items_in Mlocate = mlocate
items_in Locate02 = locate02
items_in Bigram = bigram

-- all that a file gives, read in this format, and its first item
abbrev pub to_come_by : DatabaseFormat → Window → ToCome
to_come_by format w = to_come (items_in format) (items_in format).begin 0 0 w

abbrev pub preamble_by : DatabaseFormat → Window → Option (ℕ × Bool)
preamble_by format w = preamble_of (items_in format) w

-- the same in the format that the file is read in
unfoldable pub to_come_in : Window → ToCome
to_come_in w = to_come_by (read_as w.bytes) w

unfoldable pub preamble_in : Window → Option (ℕ × Bool)
preamble_in w = preamble_by (read_as w.bytes) w

-- ---- a whole file

-- all that a file gives
abbrev pub contents : List ℕ → ToCome
contents file = to_come_in (readable file)

-- the same of its first n bytes alone, which do not end it
abbrev pub contents_of_part : ℕ → List ℕ → ToCome
contents_of_part n file = to_come_in (record { bytes = take limit (take n file); more = true })

-- whether a first item that is whole asks for visible paths alone
abbrev pub asks_gate : Option (ℕ × Bool) → Bool
asks_gate None = false
asks_gate (Some first) = first.1

-- whether a file's header is whole and asks for visible paths alone, as only those of mlocate can
abbrev pub is_gated : List ℕ → Bool
is_gated file = asks_gate (preamble_in (readable file))

-- ---- the paths of a directory

-- the path of a path's directory
abbrev pub directory_of : PathAt → List ℕ
directory_of p = take p.dir_len p.text

-- how many directory heads can stand before a path: one at least, or none where the format has none
abbrev pub HasHeads : DatabaseFormat → ℕ → Type 0
HasHeads Mlocate heads = 0 < heads
HasHeads Locate02 heads = heads ≡ 0
HasHeads Bigram heads = heads ≡ 0
