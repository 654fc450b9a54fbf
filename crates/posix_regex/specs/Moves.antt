-- How items lead through a text.
use Rattle.std.specs.Prelude.{◌≡◌, ℕ, zero, suc, ◌+◌, ◌<◌, ◌≤◌, ◌⊎◌, List, length, slice_get, slice_index, Contains, Option, Some, None}
use Rattle.posix_regex.specs.Program.{Item, Takes, AtStart, AtEnd, Fork, Back, Skip}

-- the item at place s of the row leads, from place i of the text, to item t at place j
abbrev pub Leads : List ℕ → Option Item → ℕ → ℕ → ℕ → ℕ → Type 0
Leads text None s i t j = ⊥
Leads text (Some (Takes bytes)) s i t j = (t ≡ s + 1) × (j ≡ i + 1) × (i < length text) × Contains bytes (slice_index text i)
Leads text (Some AtStart) s i t j = (t ≡ s + 1) × (j ≡ i) × (i ≡ 0)
Leads text (Some AtEnd) s i t j = (t ≡ s + 1) × (j ≡ i) × (i ≡ length text)
Leads text (Some (Fork further)) s i t j = (j ≡ i) × ((t ≡ s + 1) ⊎ (t ≡ s + further))
Leads text (Some (Back before)) s i t j = (j ≡ i) × ((t ≡ s + 1) ⊎ (t + before ≡ s))
Leads text (Some (Skip further)) s i t j = (j ≡ i) × (t ≡ s + further)

-- so many moves lead from the first item, at any place of the text, to an item and a place
abbrev pub Comes : ℕ → List Item → List ℕ → ℕ → ℕ → Type 0
Comes zero items text s i = (s ≡ 0) × (i ≤ length text)
Comes (suc count) items text s i =
    (t : ℕ) × (k : ℕ) × Comes count items text t k × Leads text (slice_get items t) t k s i

-- some moves lead to this item at this place of the text
abbrev pub Reached : List Item → List ℕ → ℕ → ℕ → Type 0
Reached items text s i = (count : ℕ) × Comes count items text s i

-- the items reach their end somewhere in the text
abbrev pub ReachesEnd : List Item → List ℕ → Type 0
ReachesEnd items text = (j : ℕ) × Reached items text (length items) j

-- so many moves lead, without a byte, from some items to an item, all at this place of the text
abbrev pub Silent : ℕ → List Item → List ℕ → List ℕ → ℕ → ℕ → Type 0
Silent zero items text from i s = Contains from s
Silent (suc count) items text from i s = (t : ℕ) × Silent count items text from i t × Leads text (slice_get items t) t i s i

-- some moves lead there
abbrev pub Still : List Item → List ℕ → List ℕ → ℕ → ℕ → Type 0
Still items text from i s = (count : ℕ) × Silent count items text from i s
