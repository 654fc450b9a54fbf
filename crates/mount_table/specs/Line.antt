-- Lines, and the fields in them.
use Rattle.std.specs.Prelude.{ℕ, Bool, true, false, ◌||◌, ◌==◌, List, [], ◌∷◌, filter}
use Rattle.std.specs.List.{slice_split, enumerate_from}

-- whether a list has an element
abbrev pub is_not_empty : {X : Type 0} → List X → Bool
is_not_empty [] = false
is_not_empty (x ∷ xs) = true

-- the byte that ends a line
abbrev pub is_newline : ℕ → Bool
is_newline byte = byte == 10

-- the bytes between fields, space and tab
abbrev pub is_blank : ℕ → Bool
is_blank byte = byte == 32 || byte == 9

-- the fields of a line: the runs of bytes other than blanks, in order
unfoldable pub fields : List ℕ → List (List ℕ)
fields line = filter is_not_empty (slice_split is_blank line)

-- the lines of a text, each with its number, where the first has this one; a line that is empty is counted and left out
unfoldable pub numbered_lines : ℕ → List ℕ → List (ℕ × List ℕ)
numbered_lines first text = filter (λ l. is_not_empty l.1) (enumerate_from first (slice_split is_newline text))
