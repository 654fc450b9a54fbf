-- How a set of words is stored.
use Rattle.std.specs.Prelude.{ℕ, ◌+◌, List, map, take, drop, T}
use Rattle.std.specs.FinMap.{is_sorted}
use Rattle.std.specs.Ordering.{nat_cmp}
use Rattle.std.specs.Cmp.Lexicographic.{slice_cmp}
use Rattle.updatedb_conf.specs.Words.{marked}
use Rattle.updatedb_conf.specs.declared.word_set.Span.{Span}

-- a piece of a text
abbrev pub piece : List ℕ → Span → List ℕ
piece text span = take span.len (drop span.start text)

-- the pieces of a text
abbrev pub pieces : List ℕ → List Span → List (List ℕ)
pieces text spans = map (piece text) spans

-- the words rise, byte by byte
abbrev pub IsRising : List (List ℕ) → Type 0
IsRising words = T (is_sorted (slice_cmp nat_cmp) (marked words))
