-- The names of a directory that a database takes.
use Rattle.std.specs.Prelude.{ℕ, Bool, true, false, ◌&&◌, nat_le, List, length, map}
use Rattle.std.specs.Ordering.{nat_cmp, eq_by_cmp}
use Rattle.std.specs.Cmp.Lexicographic.{slice_cmp}
use Rattle.std.specs.List.{filter, list_any}
use Rattle.std.specs.FinMap.{entries}
use Rattle.path_order.specs.declared.kind.Kind.{Kind}
use Rattle.path_order.specs.declared.kind.Kind.TheVariants.{File, Directory}
use Rattle.path_order.specs.NameList.{Listed}
use Rattle.path_order.specs.Names.{is_name}
use Rattle.path_order.specs.Path.{joined}
use Rattle.loc_outside.specs.Trees.{Dir}

abbrev pub is_directory : Kind → Bool
is_directory File = false
is_directory Directory = true

-- a name whose path has at most 4,096 bytes
abbrev pub fits_in : List ℕ → List ℕ → Bool
fits_in path name = is_name name && nat_le (length (joined path name)) 4096

-- the names of a directory whose paths fit, in the order of their bytes
abbrev pub admitted : List ℕ → Dir → Listed
admitted path dir = filter (λ e. fits_in path e.0) (entries dir.names)

-- the paths of the directories among these names
abbrev pub paths_in : List ℕ → Listed → List (List ℕ)
paths_in path names = map (λ e. joined path e.0) (filter (λ e. is_directory e.1) names)

-- whether a name is admitted, as a directory's
abbrev pub names_directory : List ℕ → Dir → List ℕ → Bool
names_directory path dir name = list_any (λ e. is_directory e.1 && eq_by_cmp (slice_cmp nat_cmp) name e.0) (admitted path dir)
