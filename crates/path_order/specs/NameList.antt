-- Lists of names with their kinds.
use Rattle.std.specs.Prelude.{ℕ, List, Contains, IsTrue, ◌↔◌}
use Rattle.std.specs.Ordering.{nat_cmp, ordering_then}
use Rattle.std.specs.declared.cmp.Ordering.{Ordering}
use Rattle.std.specs.Cmp.Lexicographic.{slice_cmp}
use Rattle.std.specs.FinMap.{is_sorted}
use Rattle.path_order.specs.declared.kind.Kind.{Kind}
use Rattle.path_order.specs.declared.kind.Kind.TheVariants.{File, Directory}

-- names with their kinds
abbrev pub Listed : Type 0
Listed = List (List ℕ × Kind)

-- the names strictly rise by their bytes, so none stands twice
abbrev pub Rises : Listed → Type 0
Rises names = IsTrue (is_sorted (slice_cmp nat_cmp) names)

-- the list has the name with this kind, and as a directory only where it doesn't have it as a file
abbrev pub HasFirst : Listed → List ℕ → Kind → Type 0
HasFirst names name File = Contains names (name, File)
HasFirst names name Directory = Contains names (name, Directory) × ¬ (Contains names (name, File))

-- the names of the old list in the order of their bytes, each once, with the kind that comes first
pub record SortsTo (old new : Listed) : Type 0 where
  pub rises : Rises new
  pub holds : (name : List ℕ) (kind : Kind) → Contains new (name, kind) ↔ HasFirst old name kind

-- a kind's place in the order of kinds
abbrev pub kind_rank : Kind → ℕ
kind_rank File = 0
kind_rank Directory = 1

-- two names by their bytes, and by their kinds where they are equal
abbrev pub entry_cmp : List ℕ × Kind → List ℕ × Kind → Ordering
entry_cmp a b = ordering_then (slice_cmp nat_cmp a.0 b.0) (nat_cmp (kind_rank a.1) (kind_rank b.1))
