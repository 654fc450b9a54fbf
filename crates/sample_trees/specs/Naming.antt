-- Names in a sample, and the paths of its directories.
use Rattle.std.specs.Prelude.{ℕ, zero, suc, ◌/◌, List, [], ◌∷◌, ◌++◌, decimal, map}
use Rattle.std.specs.List.{range_with_len}
use Rattle.path_order.specs.declared.kind.Kind.{Kind}
use Rattle.path_order.specs.NameList.{Listed}
use Rattle.path_order.specs.Path.{path_of}

-- a letter and a number in decimal
unfoldable pub numbered : ℕ → ℕ → List ℕ
numbered letter number = letter ∷ decimal number

-- `n`, the number of a round, `_` and that of an edit
unfoldable pub added_name : ℕ → ℕ → List ℕ
added_name round edit = numbered 110 round ++ numbered 95 edit

-- a name and its kind for each of so many numbers, from a given one on
abbrev pub numbered_from : ℕ → Kind → ℕ → ℕ → Listed
numbered_from letter kind from count = map (λ number. (numbered letter number, kind)) (range_with_len from count)

-- The names that lead from the root to a directory: `d` and its number, after the names of number `i` where its number is 8
-- times `i` plus 1 to 8; none for number 0. The first argument bounds the recursion.
abbrev pub names_within : ℕ → ℕ → List (List ℕ)
names_within zero number = []
names_within (suc bound) zero = []
names_within (suc bound) (suc above) = names_within bound (above / 8) ++ numbered 100 (suc above) ∷ []

-- the path of a directory by its number
unfoldable pub directory_path : ℕ → List ℕ
directory_path number = path_of (names_within number number)
