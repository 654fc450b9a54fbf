-- Names that lie one after another.
use Rattle.std.specs.Prelude.{ℕ, ◌-◌, ◌≤◌, List, All, map, length, take, drop}
use Rattle.path_order.specs.declared.kind.Kind.{Kind}
use Rattle.path_order.specs.declared.name_list.Span.{Span}
use Rattle.path_order.specs.NameList.{Listed}

-- the bytes from a place to another
abbrev pub text_at : List ℕ → Span → List ℕ
text_at bytes span = take (span.end - span.start) (drop span.start bytes)

-- a name with its kind
abbrev pub entry_at : List ℕ → Span → List ℕ × Kind
entry_at bytes span = (text_at bytes span, span.kind)

-- all names with their kinds
abbrev pub entries_in : List ℕ → List Span → Listed
entries_in bytes spans = map (entry_at bytes) spans

-- a name lies within the bytes
pub record IsWithin (bytes : List ℕ) (span : Span) : Type 0 where
  pub forward : span.start ≤ span.end
  pub inside : span.end ≤ length bytes

-- each name lies within the bytes
abbrev pub AllWithin : List ℕ → List Span → Type 0
AllWithin bytes spans = All (IsWithin bytes) spans
