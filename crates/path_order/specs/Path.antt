-- Texts of paths.
use Rattle.std.specs.Prelude.{ℕ, Bool, false, ◌&&◌, ◌==◌, nat_le, List, [], ◌∷◌, ◌++◌, length, if◌then◌else◌}
use Rattle.std.specs.List.{list_all, slice_split, before_last, after_last}
use Rattle.path_order.specs.Names.{is_name}

-- the byte `/`
abbrev pub is_slash : ℕ → Bool
is_slash byte = byte == 47

-- the text is a slash alone
abbrev pub is_root : List ℕ → Bool
is_root [] = false
is_root (x ∷ []) = is_slash x
is_root (x ∷ y ∷ rest) = false

-- the path of a name in a directory
abbrev pub joined : List ℕ → List ℕ → List ℕ
joined path name = if is_root path then path ++ name else path ++ 47 ∷ name

-- a slash before each of the names
abbrev pub slashed : List (List ℕ) → List ℕ
slashed [] = []
slashed (name ∷ names) = 47 ∷ name ++ slashed names

-- the path that these names make from the root
abbrev pub path_of : List (List ℕ) → List ℕ
path_of [] = 47 ∷ []
path_of (name ∷ names) = slashed (name ∷ names)

-- the components, which stand between the slashes and after the last; the root has none
abbrev pub comps : List ℕ → List (List ℕ)
comps [] = []
comps (slash ∷ []) = []
comps (slash ∷ byte ∷ rest) = slice_split is_slash (byte ∷ rest)

-- the text begins with a slash
abbrev pub begins_at_root : List ℕ → Bool
begins_at_root [] = false
begins_at_root (x ∷ rest) = is_slash x

-- a normal path: at most 4,096 bytes, the first of them a slash, and each component is a name
abbrev pub is_normal : List ℕ → Bool
is_normal path = nat_le (length path) 4096 && begins_at_root path && list_all is_name (comps path)

-- what stands after the last slash, or all where there is none
abbrev pub base_of : List ℕ → List ℕ
base_of path = after_last is_slash path

-- the text, or the root where it is empty
abbrev pub or_root : List ℕ → List ℕ
or_root [] = 47 ∷ []
or_root (x ∷ rest) = x ∷ rest

-- what stands before the last slash, or the root where that is nothing
abbrev pub parent_of : List ℕ → List ℕ
parent_of path = or_root (before_last is_slash path)
