-- Directories by their paths, and what a tree answers of them.
use Rattle.std.specs.Prelude.{◌≡◌, ℕ, Bool, true, false, List, ◌∷◌, [], ⊤, None, Some, Ok, Err, Result, MatchResult, is_some, IsSomeAnd, IsPermutation}
use Rattle.std.specs.declared.option.Option.{Option}
use Rattle.std.specs.Option.{option_map}
use Rattle.std.specs.Ordering.{nat_cmp}
use Rattle.std.specs.Cmp.Lexicographic.{slice_cmp}
use Rattle.std.specs.FinMap.{FinMap, get, entries}
use Rattle.path_order.specs.declared.kind.Kind.{Kind}
use Rattle.path_order.specs.NameList.{Listed}
use Rattle.loc_outside.specs.declared.traits.bytes.Failed.{Failed}
use Rattle.loc_outside.specs.declared.traits.tree.Times.{Times}
use Rattle.loc_outside.specs.declared.traits.tree.Listing.{Listing}
use Rattle.loc_outside.specs.declared.traits.tree.Listing.TheVariants.{Shown, Hidden, Missing}

-- a finite map from names to kinds
abbrev pub Names : Type 0
Names = FinMap (slice_cmp nat_cmp) Kind

-- a directory: its times, whether it hides its names, and these
pub record Dir : Type 0 where
  pub times : Times
  pub hidden : Bool
  pub names : Names

-- a finite map from paths to directories
abbrev pub Dirs : Type 0
Dirs = FinMap (slice_cmp nat_cmp) Dir

-- `stat` answers the times of the directory, and None exactly where there is none
abbrev pub StatsAs : Option Dirs → List ℕ → Result (Option Times) Failed → Type 0
StatsAs None path r = ⊤
StatsAs (Some dirs) path r = MatchResult r (λ times. times ≡ option_map (λ dir. dir.times) (get dirs path)) (λ _. ⊤)

-- `open_dir` answers whether the directory is there and shows its names, which are then to be listed in an order that `listed` allows
abbrev pub ListsBy : (Listed → Listed → Type 0) → Dirs → List ℕ → Result Listing Failed → Option Listed → Type 0
ListsBy listed dirs path (Ok Shown) rest = IsSomeAnd (get dirs path) (λ dir. (dir.hidden ≡ false) × IsSomeAnd rest (λ names. listed names (entries dir.names)))
ListsBy listed dirs path (Ok Hidden) rest = IsSomeAnd (get dirs path) (λ dir. dir.hidden ≡ true)
ListsBy listed dirs path (Ok Missing) rest = get dirs path ≡ None
ListsBy listed dirs path (Err e) rest = ⊤

-- the names are listed in any order, each once
abbrev pub ListsAs : Option Dirs → List ℕ → Result Listing Failed → Option Listed → Type 0
ListsAs None path r rest = ⊤
ListsAs (Some dirs) path r rest = ListsBy IsPermutation dirs path r rest

-- the names are listed in the order of their bytes
abbrev pub ListsInOrder : Dirs → List ℕ → Result Listing Failed → Listed → Type 0
ListsInOrder dirs path r rest = ListsBy (λ names all. names ≡ all) dirs path r (Some rest)

-- a listing is open after `open_dir` exactly where it showed the names
abbrev pub opens_listing : Result Listing Failed → Bool
opens_listing (Ok Shown) = true
opens_listing (Ok Hidden) = false
opens_listing (Ok Missing) = false
opens_listing (Err e) = false

-- a listing is open after `next_name` exactly where it gave a name
abbrev pub goes_on : {E : Type 0} → Result (Option Kind) E → Bool
goes_on (Ok r) = is_some r
goes_on (Err e) = false

-- `next_name` gives the first of the names that are to be listed, and none exactly after the last
abbrev pub GivesFirst : {E : Type 0} → Option Listed → Option Listed → Result (Option Kind) E → List ℕ → Type 0
GivesFirst None rest r name = ⊤
GivesFirst (Some names) None (Ok (Some kind)) name = ⊥
GivesFirst (Some names) (Some rest) (Ok (Some kind)) name = names ≡ (name, kind) ∷ rest
GivesFirst (Some names) rest (Ok None) name = names ≡ []
GivesFirst (Some names) rest (Err e) name = ⊤
