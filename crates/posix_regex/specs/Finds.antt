-- Whether an expression is found in a text, computed.
use Rattle.std.specs.Prelude.{ℕ, zero, suc, ◌+◌, ◌==◌, ◌&&◌, not, nat_eq, nat_lt, Bool, List, ◌++◌, length, map, filter, slice_index, Option, Some, None}
use Rattle.std.specs.List.{list_any, range_with_len}
use Rattle.posix_regex.specs.Expression.{Expression, OneOf, Start, End, Empty, Then, Or, Repeat}

-- the places of the first list, then those of the second that are not among them
abbrev pub joined : List ℕ → List ℕ → List ℕ
joined first second = first ++ filter (λ place. not (list_any (nat_eq place) first)) second

-- where so many steps lead from some places
abbrev pub exactly : ℕ → (List ℕ → List ℕ) → List ℕ → List ℕ
exactly zero step places = places
exactly (suc count) step places = exactly count step (step places)

-- where at most so many steps lead from some places
abbrev pub at_most : ℕ → (List ℕ → List ℕ) → List ℕ → List ℕ
at_most zero step places = places
at_most (suc count) step places = joined places (at_most count step (step places))

-- how many rounds past the least lead anywhere new: without a bound no more than the text has bytes, since each of the
-- others stays at its place
abbrev pub rounds : List ℕ → Option ℕ → ℕ
rounds text None = length text
rounds text (Some more) = more

-- the places to which the expression spans the text from some places
unfoldable pub ends : Expression → List ℕ → List ℕ → List ℕ
ends (OneOf bytes) text places =
    map (λ i. i + 1) (filter (λ i. nat_lt i (length text) && list_any (nat_eq (slice_index text i)) bytes) places)
ends Start text places = filter (λ i. i == 0) places
ends End text places = filter (λ i. i == length text) places
ends Empty text places = places
ends (Then first second) text places = ends second text (ends first text places)
ends (Or first second) text places = joined (ends first text places) (ends second text places)
ends (Repeat inner least more) text places =
    at_most (rounds text more) (ends inner text) (exactly least (ends inner text) places)

-- the expression spans some part of the text: from one of all the places it leads to some place
unfoldable pub finds : Expression → List ℕ → Bool
finds expression text = nat_lt 0 (length (ends expression text (range_with_len 0 (length text + 1))))
