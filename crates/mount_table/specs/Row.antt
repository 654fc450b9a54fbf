-- What a line of /proc/PID/mountinfo tells, by proc(5).
use Rattle.std.specs.Prelude.{ℕ, ◌-◌, nat_lt, List, [], length, drop, slice_get, slice_index_or, Option, Some, None, Result, Ok, Err, codes, bytes_eq, if◌then◌else◌}
use Rattle.std.specs.List.{after_first}
use Rattle.path_order.specs.Path.{begins_at_root}
use Rattle.mount_table.specs.declared.fault.MountCause.{MountCause}
use Rattle.mount_table.specs.declared.fault.MountCause.TheVariants.{FewFields, NoSeparator, BadDevice, BadEscape, BadPath}
use Rattle.mount_table.specs.Device.{device_numbers}
use Rattle.mount_table.specs.Escape.{unescaped}
use Rattle.mount_table.specs.Line.{fields}

-- a mount: its device, the directory of the file system that is mounted, where it is mounted, and the file system's type
pub record MountRow : Type 0 where
  pub major : ℕ
  pub minor : ℕ
  pub root : List ℕ
  pub point : List ℕ
  pub kind : List ℕ

-- the n-th field, counted from 1
abbrev pub nth_field : List (List ℕ) → ℕ → List ℕ
nth_field parts n = slice_index_or parts (n - 1) []

-- the type, which follows the first `-` from the seventh field on
abbrev pub kind_field : List (List ℕ) → Option (List ℕ)
kind_field parts = slice_get (after_first (bytes_eq (codes "-")) (drop 6 parts)) 0

-- the row of a type, a device, a root and a mount point, or the first rule that is broken
abbrev pub row_or_cause : Option (List ℕ) → Option (ℕ × ℕ) → Option (List ℕ) → Option (List ℕ) → Result MountRow MountCause
row_or_cause None device root point = Err NoSeparator
row_or_cause (Some kind) None root point = Err BadDevice
row_or_cause (Some kind) (Some device) None point = Err BadEscape
row_or_cause (Some kind) (Some device) (Some root) None = Err BadEscape
row_or_cause (Some kind) (Some device) (Some root) (Some point) =
    if begins_at_root point
    then Ok (record { major = device.0; minor = device.1; root = root; point = point; kind = kind })
    else Err BadPath

-- the row of the fields of a line, or the first rule that they break
unfoldable pub row_of_fields : List (List ℕ) → Result MountRow MountCause
row_of_fields parts =
    if nat_lt (length parts) 6 then Err FewFields
    else row_or_cause (kind_field parts) (device_numbers (nth_field parts 3)) (unescaped (nth_field parts 4)) (unescaped (nth_field parts 5))

-- the row of a line, or the first rule that it breaks
abbrev pub row_of : List ℕ → Result MountRow MountCause
row_of line = row_of_fields (fields line)
