-- How often pairs were counted, as it lies in a list.
use Rattle.std.specs.Prelude.{◌≡◌, ℕ, ◌+◌, ◌*◌, ◌-◌, ◌<◌, List, slice_index, Option, Some, None, ◌⊎◌, if◌then◌else◌, ⊤}
use Rattle.bigram_db.specs.Pairs.{Pair}
use Rattle.bigram_db.specs.Chosen.{is_counted}

-- where the number of a pair stands, in the order of the pairs by bytes
abbrev pub index_of : Pair → ℕ
index_of p = (p.0 - 32) * 96 + (p.1 - 32)

-- the number of a pair, 0 where it does not count
abbrev pub times_of : List ℕ → Pair → ℕ
times_of numbers p = if is_counted p then slice_index numbers (index_of p) else 0

-- The number at one place comes before that at another: it is greater, or they are equal and the place is.
abbrev pub ComesFirst : List ℕ → ℕ → ℕ → Type 0
ComesFirst numbers i k = (slice_index numbers k < slice_index numbers i) ⊎ ((slice_index numbers i ≡ slice_index numbers k) × (i < k))

-- behind the last one taken, where one was
abbrev pub IsAfter : List ℕ → Option ℕ → ℕ → Type 0
IsAfter numbers None k = ⊤
IsAfter numbers (Some last) k = ComesFirst numbers last k

-- the next place in order among so many
pub record IsNextIn (numbers : List ℕ) (last : Option ℕ) (len i : ℕ) : Type 0 where
  pub within : i < len
  pub some : 0 < slice_index numbers i
  pub behind : IsAfter numbers last i
  pub least : (k : ℕ) → k < len → 0 < slice_index numbers k → IsAfter numbers last k → (k ≡ i) ⊎ ComesFirst numbers i k

-- There is none among so many.
abbrev pub IsNoneNext : List ℕ → Option ℕ → ℕ → Type 0
IsNoneNext numbers last len = (k : ℕ) → k < len → 0 < slice_index numbers k → IsAfter numbers last k → ⊥
