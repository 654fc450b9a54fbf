-- Records of directories in an old database, and when they can be relied on.
use Rattle.std.specs.Prelude.{◌≡◌, ◌≤◌, ℕ, Bool, true, false, not, ◌&&◌, ◌==◌, List, [], length, filter, Contains, All, IsTrue, Option, Some, None, is_some, IfSome, IsSomeAnd}
use Rattle.std.specs.Option.{option_map_or}
use Rattle.std.specs.declared.cmp.Ordering.TheVariants.{Less}
use Rattle.std.specs.List.{list_any}
use Rattle.std.specs.Str.{bytes_eq}
use Rattle.path_order.specs.NameList.{Listed, Rises}
use Rattle.path_order.specs.Order.{path_cmp}
use Rattle.path_order.specs.Stamp.{Moment}
use Rattle.loc_outside.specs.Trees.{Dir, Dirs}
use Rattle.tree_scan.specs.Admitted.{admitted, fits_in}
use Rattle.tree_scan.specs.Blocks.{time_of}
use Rattle.tree_scan.specs.Plan.{Plan}
use Rattle.tree_scan.specs.Reach.{tried}

-- a directory as an old database has it; in version 0 it has no device
pub record Record : Type 0 where
  pub path : List ℕ
  pub stamp : Moment
  pub device : Option ℕ
  pub names : Listed

abbrev pub is_moment : Moment → Moment → Bool
is_moment a b = a.seconds == b.seconds && a.nanos == b.nanos

abbrev pub is_zero : Moment → Bool
is_zero a = a.seconds == 0 && a.nanos == 0

-- whether a record bears this time, which is not zero, and no device or this one
abbrev pub bears : Record → Moment → ℕ → Bool
bears r time device = is_moment r.stamp time && not (is_zero time) && option_map_or (λ d. d == device) r.device true

-- whether one of the records, of this path, bears this time and device
abbrev pub is_vouched : List Record → List ℕ → Moment → ℕ → Bool
is_vouched records path time device = list_any (λ r. bytes_eq r.path path && bears r time device) records

-- one of the records, of this path, that bears this time and device, has these names
pub record Vouches (records : List Record) (path : List ℕ) (time : Moment) (device : ℕ) (names : Listed) : Type 0 where
  pub known : Record
  pub there : Contains records known
  pub at : known.path ≡ path
  pub bearing : bears known time device ≡ true
  pub has : known.names ≡ names

-- those directories that no record vouches for
abbrev pub unvouched : List Record → Plan → List (List ℕ × Dir) → List (List ℕ × Dir)
unvouched records plan dirs = filter (λ e. not (is_vouched records e.0 (time_of e.1.times) (plan.device_of e.0))) dirs

-- Each tried directory that still bears the time and the device of one of its records shows the names of the record. Where
-- the records are not known, nothing can be relied on.
abbrev pub Honest : Option (List Record) → Dirs → Plan → Type 0
Honest None dirs plan = ⊥
Honest (Some records) dirs plan =
    (r : Record) (dir : Dir) → Contains records r → Contains (tried dirs plan.pruned plan.root) (r.path, dir) → bears r (time_of dir.times) (plan.device_of r.path) ≡ true
    → (dir.hidden ≡ false) × (admitted r.path dir ≡ r.names)

-- the names of a record that vouches for this directory are its own, and it shows them
abbrev pub Relied : Option (List Record) → ℕ → List ℕ → Dir → Type 0
Relied None device path dir = ⊥
Relied (Some records) device path dir = (names : Listed) → Vouches records path (time_of dir.times) device names → (dir.hidden ≡ false) × (admitted path dir ≡ names)

-- the records, where they are known
abbrev pub known : Option (List Record) → List Record
known None = []
known (Some records) = records

-- whether a voucher's records are known and ordered, and its reading is unbroken
abbrev pub answers_all : Option (List Record) → Bool → Bool → Bool
answers_all records ordered unbroken = is_some records && (ordered && unbroken)

-- names that fit a directory's path, rising by their bytes, at most 16,777,216
pub record Fitting (path : List ℕ) (names : Listed) : Type 0 where
  pub fit : All (λ e. IsTrue (fits_in path e.0)) names
  pub rise : Rises names
  pub few : length names ≤ 16777216

-- What a question leaves of known records: some of them, and, where they were ordered and the voucher is still unbroken,
-- each whose path comes after the directory's.
pub record LeavesOf (dir : List ℕ) (records : List Record) (ordered : Bool) (left : List Record) (unbroken : Bool) : Type 0 where
  pub some : (r : Record) → Contains left r → Contains records r
  pub later : IsTrue ordered → IsTrue unbroken → (r : Record) → Contains records r → path_cmp dir r.path ≡ Less → Contains left r

-- known records stay known
abbrev pub Leaves : List ℕ → Option (List Record) → Bool → Option (List Record) → Bool → Type 0
Leaves dir records ordered left unbroken = IfSome records (λ before. IsSomeAnd left (λ after. LeavesOf dir before ordered after unbroken))
