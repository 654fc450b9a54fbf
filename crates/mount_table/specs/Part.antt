-- What the private functions say of a part of a table, a number or a path.
use Rattle.std.specs.Prelude.{◌≡◌, ◌⊎◌, ℕ, ◌≤◌, true, ◌&&◌, nat_le, List, [], ◌∷◌, ◌++◌, length, slice_index, Option, Some, None, Result, Ok, Err, if◌then◌else◌}
use Rattle.std.specs.Char.{is_ascii_digit}
use Rattle.std.specs.List.{list_all, AllByRecursion}
use Rattle.std.specs.Str.Parse.{digits_value}
use Rattle.mount_table.specs.declared.fault.MountCause.{MountCause}
use Rattle.mount_table.specs.Lookup.{covers}
use Rattle.mount_table.specs.Row.{MountRow, row_of}

-- a row alone
abbrev pub one_row : Result MountRow MountCause → Result (List MountRow) MountCause
one_row (Ok row) = Ok (row ∷ [])
one_row (Err cause) = Err cause

-- some rows and then others
abbrev pub with_rows : {E : Type 0} → List MountRow → Result (List MountRow) E → Result (List MountRow) E
with_rows rows (Ok more) = Ok (rows ++ more)
with_rows rows (Err fault) = Err fault

-- the rows of a line: none where it is empty
abbrev pub rows_of_line : List ℕ → Result (List MountRow) MountCause
rows_of_line [] = Ok []
rows_of_line (x ∷ text) = one_row (row_of (x ∷ text))

-- the number of at most 32 bits that digits write, 0 where there are none
unfoldable pub digits_number : List ℕ → Option ℕ
digits_number digits =
    if list_all is_ascii_digit digits && nat_le (digits_value 10 digits) 4294967295 then Some (digits_value 10 digits) else None

-- no mount point that covers a path is longer than this
abbrev pub NoneLonger : List ℕ → ℕ → List MountRow → Type 0
NoneLonger path len rows = AllByRecursion (λ row. covers path row ≡ true → length row.point ≤ len) rows

-- a front of this length is a path prefix of a path that begins at the root
abbrev pub EndsPrefix : List ℕ → ℕ → Type 0
EndsPrefix path len = (len ≡ length path) ⊎ ((len ≡ 1) ⊎ (slice_index path len ≡ 47))
