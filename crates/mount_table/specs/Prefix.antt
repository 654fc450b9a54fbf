-- Path prefixes, and what follows them.
use Rattle.std.specs.Prelude.{ℕ, Bool, ◌&&◌, nat_eq, nat_lt, List, [], ◌∷◌, ◌++◌, length, drop, bytes_eq, if◌then◌else◌}
use Rattle.std.specs.List.{starts_with}
use Rattle.path_order.specs.Path.{is_root, begins_at_root}
use Rattle.mount_table.specs.Line.{is_not_empty}

-- each rest with which a text is a path prefix of a path: nothing, where both are one; the path, where the text is the
-- root and the path is longer and begins there; and what follows the text in the path, where that begins with a slash
unfoldable pub rests : List ℕ → List ℕ → List (List ℕ)
rests text path =
    (if bytes_eq text path then [] ∷ [] else [])
    ++ (if is_root text && begins_at_root path && nat_lt 1 (length path) then path ∷ [] else [])
    ++ (if starts_with nat_eq path text && begins_at_root (drop (length text) path) then drop (length text) path ∷ [] else [])

-- whether a text is a path prefix of a path, with some rest
abbrev pub is_path_prefix : List ℕ → List ℕ → Bool
is_path_prefix text path = is_not_empty (rests text path)

-- a path with a rest put after it
unfoldable pub with_rest : List ℕ → List ℕ → List ℕ
with_rest path [] = path
with_rest path (x ∷ rest) = if is_root path then x ∷ rest else path ++ x ∷ rest
