-- The rows of a mount table, or its refusal.
use Rattle.std.specs.Prelude.{ℕ, List, [], ◌∷◌, Option, option_map, Result, Ok, Err, filter_map}
use Rattle.std.specs.Result.{result_ok, result_err}
use Rattle.mount_table.specs.declared.fault.MountFault.{MountFault}
use Rattle.mount_table.specs.Line.{numbered_lines}
use Rattle.mount_table.specs.Row.{MountRow, row_of}

-- the fault of a numbered line
abbrev pub fault_of : ℕ × List ℕ → Option MountFault
fault_of l = option_map (λ cause. record { line = l.0; cause = cause }) (result_err (row_of l.1))

-- the first fault, or the rows where there is none
abbrev pub rows_or_fault : List MountFault → List MountRow → Result (List MountRow) MountFault
rows_or_fault [] rows = Ok rows
rows_or_fault (fault ∷ faults) rows = Err fault

-- the rows of numbered lines, or the first fault among them
unfoldable pub mounts_of_lines : List (ℕ × List ℕ) → Result (List MountRow) MountFault
mounts_of_lines lines = rows_or_fault (filter_map fault_of lines) (filter_map (λ l. result_ok (row_of l.1)) lines)

-- the rows of a text, or the fault of the first line that has one; lines are counted from 1
abbrev pub mounts_of : List ℕ → Result (List MountRow) MountFault
mounts_of text = mounts_of_lines (numbered_lines 1 text)
