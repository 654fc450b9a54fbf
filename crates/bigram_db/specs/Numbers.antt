-- The numbers of the pairs of a table, as they lie in a list.
use Rattle.std.specs.Prelude.{◌≡◌, ℕ, List, true, slice_index, nat_lt, Option, Some, None, if◌then◌else◌}
use Rattle.bigram_db.specs.Pairs.{Pair, number_of}
use Rattle.bigram_db.specs.Chosen.{is_counted}
use Rattle.bigram_db.specs.Counts.{index_of}

-- what a cell tells: below 128 the pair's number, from 128 on that the table lacks the pair
abbrev pub number_told : ℕ → Option ℕ
number_told cell = if nat_lt cell 128 then Some cell else None

-- For each pair of plain bytes, the cell at its place tells the first number of the pair in the table.
abbrev pub AreNumbers : List ℕ → List ℕ → Type 0
AreNumbers table numbers = (p : Pair) → is_counted p ≡ true → number_told (slice_index numbers (index_of p)) ≡ number_of table p
