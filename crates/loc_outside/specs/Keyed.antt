-- Values under keys of bytes, in the order of the keys.
use Rattle.std.specs.Prelude.{◌≡◌, ℕ, ◌<◌, ◌≤◌, List, map, length, IsTrue, slice_index_or, Bool}
use Rattle.std.specs.Ordering.{nat_cmp}
use Rattle.std.specs.declared.cmp.Ordering.TheVariants.{Less, Greater}
use Rattle.std.specs.Cmp.Lexicographic.{slice_cmp}
use Rattle.std.specs.FinMap.{FinMap, from_sorted, is_sorted}
use Rattle.std.specs.List.{list_all}
use Rattle.std.specs.List.Sorted.{IsPartitionPoint}
use Rattle.path_order.specs.declared.kind.Kind.{Kind}
use Rattle.path_order.specs.NameList.{Listed}
use Rattle.loc_outside.specs.declared.memory.keyed.Keyed.{Keyed}
use Rattle.loc_outside.specs.Edits.{fits}
use Rattle.loc_outside.specs.Trees.{Names}

-- the keys, each with what its value stands for
abbrev pub pairs_by : {V X : Type 0} → (V → X) → List (Keyed V) → List (List ℕ × X)
pairs_by f items = map (λ item. (item.key.items, f item.value)) items

-- the keys strictly rise
abbrev pub KeysRise : {V : Type 0} → List (Keyed V) → Type 0
KeysRise items = IsTrue (is_sorted (slice_cmp nat_cmp) (pairs_by (λ v. v) items))

-- the map of these, whose keys rise
abbrev pub map_by : {V X : Type 0} → (V → X) → List (Keyed V) → FinMap (slice_cmp nat_cmp) X
map_by f items = from_sorted (pairs_by f items)

-- the item at this place has the key
abbrev pub IsAt : {V : Type 0} → List (Keyed V) → List ℕ → ℕ → Type 0
IsAt {V} items key place = (place < length items) × ((d : Keyed V) → (slice_index_or items place d).key.items ≡ key)

-- the keys before this place come before the key, and those from it on after it
abbrev pub IsGap : {V : Type 0} → List (Keyed V) → List ℕ → ℕ → Type 0
IsGap {V} items key place = (place ≤ length items) × IsPartitionPoint (λ (item : Keyed V). slice_cmp nat_cmp item.key.items key ≡ Less) (λ (item : Keyed V). slice_cmp nat_cmp item.key.items key ≡ Greater) items place

-- each is a name that fits a path
abbrev pub all_fit : Listed → Bool
all_fit names = list_all (λ e. fits e.0) names

-- the names of a directory: they rise, and each fits a path
pub record AreNames (items : List (Keyed Kind)) : Type 0 where
  pub rise : KeysRise items
  pub fit : IsTrue (all_fit (pairs_by (λ kind. kind) items))

-- kinds by names
abbrev pub names_of : List (Keyed Kind) → Names
names_of items = map_by (λ kind. kind) items
