-- The items of an mlocate database, as mlocate.db(5) has them, in the order of their bytes: a header, and then for each
-- directory a head, its entries and an end. Version 1 is this project's own: it keeps a device in each head.
use Rattle.std.specs.Prelude.{ℕ, zero, suc, ◌-◌, ◌<◌, ◌^◌, Bool, true, false, List, [], ◌∷◌, ◌++◌, length, Option, Some, None, Ok, Err, nat_lt, ◌==◌, if◌then◌else◌}
use Rattle.byteorder.specs.Endian.{big_bytes}
use Rattle.path_order.specs.Path.{is_root, joined}
use Rattle.byte_feed.specs.declared.damage.DamageCause.TheVariants.{BadVersion, BadFlag, BadNanos, BadKind, EmptyPath, EmptyName}
use Rattle.byte_feed.specs.declared.damage.Stop.TheVariants.{Broken}
use Rattle.byte_feed.specs.Field.{Reads, ◌>>=◌, magic_at, byte_at, bytes_at, number_at, text_at, demand, IsText, max_path, ended}
use Rattle.byte_feed.specs.Front.{Format}
use Rattle.path_order.specs.declared.kind.Kind.{Kind}
use Rattle.path_order.specs.declared.kind.Kind.TheVariants.{File, Directory}
use Rattle.mlocate_db.specs.declared.item.Fixed.{Fixed}
use Rattle.mlocate_db.specs.declared.item.Numbers.{Numbers}

-- ---- what an item holds

-- the version, whether paths are shown only to those who may list their directories, the root, the configuration block
pub record Header : Type 0 where
  pub version : ℕ
  pub flag : Bool
  pub padding : ℕ
  pub root : List ℕ
  pub block : List ℕ

-- a directory's time and path, and its device in version 1, padding in version 0
pub record Head : Type 0 where
  pub seconds : ℕ
  pub nanos : ℕ
  pub device : ℕ
  pub path : List ℕ

-- What a file is made of: the header, and for each directory its head, its entries and the end mark.
pub data Item : Type 0 where
  HeaderItem : Header → Item
  HeadItem : Head → Item
  EntryItem : Kind → (name : List ℕ) → Item
  EndItem : Item

-- ---- how an item is spelled

-- a zero byte, and `mlocate`
abbrev pub magic : List ℕ
magic = 0 ∷ 109 ∷ 108 ∷ 111 ∷ 99 ∷ 97 ∷ 116 ∷ 101 ∷ []

-- a number in so many bytes, big endian
unfoldable pub number : ℕ → ℕ → List ℕ
number width n = big_bytes width n

abbrev pub flag_byte : Bool → ℕ
flag_byte false = 0
flag_byte true = 1

abbrev pub kind_byte : Kind → ℕ
kind_byte File = 0
kind_byte Directory = 1

-- the first 16 bytes of a header
abbrev pub spell_fixed : Fixed → List ℕ
spell_fixed f = magic ++ (number 4 f.size ++ (f.version ∷ (flag_byte f.flag ∷ number 2 f.padding)))

-- the first 16 bytes of a head
abbrev pub spell_numbers : Numbers → List ℕ
spell_numbers n = number 8 n.seconds ++ (number 4 n.nanos ++ number 4 n.device)

abbrev pub fixed_of : Header → Fixed
fixed_of h = record { size = length h.block; version = h.version; flag = h.flag; padding = h.padding }

abbrev pub numbers_of : Head → Numbers
numbers_of h = record { seconds = h.seconds; nanos = h.nanos; device = h.device }

abbrev pub spell : Item → List ℕ
spell (HeaderItem h) = spell_fixed (fixed_of h) ++ (ended h.root ++ h.block)
spell (HeadItem h) = spell_numbers (numbers_of h) ++ ended h.path
spell (EntryItem kind name) = kind_byte kind ∷ ended name
spell EndItem = 2 ∷ []

-- ---- which items may come

-- the path that the entries of a directory go on from: its own, and a slash unless it is the root
abbrev pub in_directory : List ℕ → List ℕ
in_directory path = if is_root path then path else path ++ 47 ∷ []

-- how many bytes a name has room for there
abbrev pub room_in : List ℕ → ℕ
room_in path = max_path - length (in_directory path)

-- Sizes of the fixed part of a header as mlocate.db(5) has them: 32 bits, one of two versions, 16 bits.
pub record IsFixed (f : Fixed) : Type 0 where
  pub size : f.size < 2 ^ 32
  pub version : f.version < 2
  pub padding : f.padding < 2 ^ 16

-- A directory's time as mlocate.db(5) has it, with 64 and 32 bits; less than a second of nanoseconds; a device of 32 bits.
pub record IsNumbers (n : Numbers) : Type 0 where
  pub seconds : n.seconds < 2 ^ 64
  pub nanos : n.nanos < 1000000000
  pub device : n.device < 2 ^ 32

-- a header that can be written: numbers that fit their fields, and a root that is a text within the limit
pub record IsHeader (h : Header) : Type 0 where
  pub fixed : IsFixed (fixed_of h)
  pub root : IsText max_path h.root

-- a directory's head that can be written: numbers that fit their fields, and a path within the limit
pub record IsHead (h : Head) : Type 0 where
  pub numbers : IsNumbers (numbers_of h)
  pub path : IsText max_path h.path

-- What the items so far leave: nothing was read; no directory is open, in a database of this version; or the directory
-- of this path is. No rule looks at the version: it tells what the device field of a head means, a device in version 1
-- and padding in version 0.
pub data State : Type 0 where
  AtStart : State
  Between : (version : ℕ) → State
  Inside : (version : ℕ) → (path : List ℕ) → State

abbrev pub allowed : State → Item → Type 0
allowed AtStart (HeaderItem h) = IsHeader h
allowed (Between version) (HeadItem h) = IsHead h
allowed (Inside version path) (EntryItem kind name) = IsText (room_in path) name
allowed (Inside version path) EndItem = Unit {0}
allowed s i = ⊥

-- The first case is never asked: only a head and an end pass the version on, and neither may come at the start.
abbrev pub version_in : State → ℕ
version_in AtStart = 0
version_in (Between version) = version
version_in (Inside version path) = version

abbrev pub after : State → Item → State
after s (HeaderItem h) = Between h.version
after s (HeadItem h) = Inside (version_in s) h.path
after s (EntryItem kind name) = s
after s EndItem = Between (version_in s)

-- The file may end only before a head.
abbrev pub may_end : State → Bool
may_end AtStart = false
may_end (Between version) = true
may_end (Inside version path) = false

-- ---- reading an item, field by field

unfoldable pub fixed_at : Reads Fixed
fixed_at bytes = do
  begun ← magic_at magic bytes
  size ← number_at 4 begun.1
  version ← byte_at size.1
  known ← demand (nat_lt version.0 2) BadVersion
  flag ← byte_at version.1
  good ← demand (nat_lt flag.0 2) BadFlag
  padding ← number_at 2 flag.1
  Ok (record { size = size.0; version = version.0; flag = flag.0 == 1; padding = padding.0 }, padding.1)

abbrev pub as_header : Fixed → List ℕ → List ℕ → Header
as_header f root block = record { version = f.version; flag = f.flag; padding = f.padding; root = root; block = block }

unfoldable pub header_at : Reads Header
header_at bytes = do
  fixed ← fixed_at bytes
  root ← text_at EmptyPath max_path fixed.1
  block ← bytes_at fixed.0.size root.1
  Ok (as_header fixed.0 root.0 block.0, block.1)

unfoldable pub numbers_at : Reads Numbers
numbers_at bytes = do
  seconds ← number_at 8 bytes
  nanos ← number_at 4 seconds.1
  good ← demand (nat_lt nanos.0 1000000000) BadNanos
  device ← number_at 4 nanos.1
  Ok (record { seconds = seconds.0; nanos = nanos.0; device = device.0 }, device.1)

abbrev pub as_head : Numbers → List ℕ → Head
as_head n path = record { seconds = n.seconds; nanos = n.nanos; device = n.device; path = path }

unfoldable pub head_at : Reads Head
head_at bytes = do
  numbers ← numbers_at bytes
  path ← text_at EmptyPath max_path numbers.1
  Ok (as_head numbers.0 path.0, path.1)

abbrev pub name_at : Kind → ℕ → Reads Item
name_at kind room bytes = do
  name ← text_at EmptyName room bytes
  Ok (EntryItem kind name.0, name.1)

-- what follows a byte that tells what it is
abbrev pub listed_at : ℕ → ℕ → Reads Item
listed_at room zero bytes = name_at File room bytes
listed_at room (suc zero) bytes = name_at Directory room bytes
listed_at room (suc (suc zero)) bytes = Ok (EndItem, bytes)
listed_at room (suc (suc (suc n))) bytes = Err (Broken BadKind)

-- an entry whose name has room for so many bytes, or the end of the directory
unfoldable pub entry_at : ℕ → Reads Item
entry_at room bytes = do
  kind ← byte_at bytes
  listed_at room kind.0 kind.1

abbrev pub item_at : State → Reads Item
item_at AtStart bytes = do
  header ← header_at bytes
  Ok (HeaderItem header.0, header.1)
item_at (Between version) bytes = do
  head ← head_at bytes
  Ok (HeadItem head.0, head.1)
item_at (Inside version path) bytes = entry_at (room_in path) bytes

-- ---- what an item gives

-- The paths of the database are those of its entries. The length is that of the directory's path.
abbrev pub path_of : State → Item → Option (List ℕ × ℕ)
path_of (Inside version path) (EntryItem kind name) = Some (joined path name, length path)
path_of s i = None

abbrev pub head_of : Item → ℕ
head_of (HeadItem h) = 1
head_of i = 0

abbrev pub gate_of : Item → Bool
gate_of (HeaderItem h) = h.flag
gate_of i = false

abbrev pub mlocate : Format
mlocate = record {
  State = State;
  Item = Item;
  begin = AtStart;
  allowed = λ s i last rest. allowed s i;
  after = after;
  spell = spell;
  path_of = path_of;
  head_of = head_of;
  gate_of = gate_of;
  may_end = may_end;
  item_at = λ last s bytes. item_at s bytes;
}
