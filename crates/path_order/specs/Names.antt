-- Names in a directory.
use Rattle.std.specs.Prelude.{ℕ, Bool, not, ◌&&◌, ◌==◌, nat_lt, List, [], ◌∷◌, length}
use Rattle.std.specs.List.{list_any}
use Rattle.std.specs.Str.{bytes_eq}

-- a text that names something in a directory: not empty, with no `/` (47) and no byte 0, and neither `.` (46) nor `..`
abbrev pub is_name : List ℕ → Bool
is_name text =
    nat_lt 0 (length text) && not (list_any (λ b. b == 47) text) && not (list_any (λ b. b == 0) text) && not (bytes_eq text (46 ∷ [])) && not (bytes_eq text (46 ∷ 46 ∷ []))
