-- The order of paths.
use Rattle.std.specs.Prelude.{ℕ, ◌+◌, ◌==◌, List, map, if◌then◌else◌}
use Rattle.std.specs.declared.cmp.Ordering.{Ordering}
use Rattle.std.specs.Ordering.{nat_cmp}
use Rattle.std.specs.Cmp.Lexicographic.{slice_cmp}

-- a slash (47) before every other byte
abbrev pub rank : ℕ → ℕ
rank byte = if byte == 47 then 0 else byte + 1

-- two texts by their bytes, where the end of a text is least and a slash comes next
abbrev pub path_cmp : List ℕ → List ℕ → Ordering
path_cmp a b = slice_cmp nat_cmp (map rank a) (map rank b)

-- two lists of names, each name by its bytes
abbrev pub names_cmp : List (List ℕ) → List (List ℕ) → Ordering
names_cmp = slice_cmp (slice_cmp nat_cmp)
