-- The files of a list.
use Rattle.std.specs.Prelude.{ℕ, List, [], ◌∷◌, map, string_bytes, drop, None, Some}
use Rattle.std.specs.declared.option.Option.{Option}
use Rattle.std.specs.FinMap.{from_entries}
use Rattle.loc_outside.specs.Files.{Files}
use Rattle.loc_outside.specs.declared.memory.stored.StoredFile.{StoredFile}

-- names with bytes
abbrev pub pairs_of : List StoredFile → List (List ℕ × List ℕ)
pairs_of files = map (λ file. (string_bytes file.name, file.bytes.items)) files

-- the first of a name counts
abbrev pub files_of : List StoredFile → Files
files_of files = from_entries (pairs_of files)

-- the bytes of the first, or none
abbrev pub first_bytes : List StoredFile → List ℕ
first_bytes [] = []
first_bytes (file ∷ rest) = file.bytes.items

-- the bytes of the file at this place, or none
abbrev pub bytes_at : List StoredFile → ℕ → List ℕ
bytes_at files place = first_bytes (drop place files)

-- the name of the first, or an empty one
abbrev pub first_name : List StoredFile → List ℕ
first_name [] = []
first_name (file ∷ rest) = string_bytes file.name

-- the name of the file at this place, or an empty one
abbrev pub name_at : List StoredFile → ℕ → List ℕ
name_at files place = first_name (drop place files)

-- what is left of an open file after so many bytes of it
abbrev pub left_of : List StoredFile → Option ℕ → ℕ → List ℕ
left_of files None at = []
left_of files (Some place) at = drop at (bytes_at files place)
