-- What a mount table tells of a path.
use Rattle.std.specs.Prelude.{ℕ, max, Bool, false, not, ◌&&◌, ◌==◌, List, length, filter, fold, bytes_eq, Option, None, option_map}
use Rattle.std.specs.List.{list_any, last_or, before_last}
use Rattle.std.specs.Option.{option_map_or}
use Rattle.path_order.specs.Path.{is_normal}
use Rattle.mount_table.specs.Device.{packed_device}
use Rattle.mount_table.specs.Prefix.{rests, is_path_prefix, with_rest}
use Rattle.mount_table.specs.Row.{MountRow}

-- whether a mount covers a path: its mount point is normal and a path prefix of the path
unfoldable pub covers : List ℕ → MountRow → Bool
covers path row = is_normal row.point && is_path_prefix row.point path

-- the length of the longest mount point that covers a path
unfoldable pub covering_len : List MountRow → List ℕ → ℕ
covering_len rows path = fold (λ longest row. max longest (length row.point)) 0 (filter (covers path) rows)

-- the row that decides for a path: the last of those with the longest mount point that covers it
unfoldable pub deciding : List MountRow → List ℕ → Option MountRow
deciding rows path = last_or None (filter (λ row. covers path row && length row.point == covering_len rows path) rows)

-- the type of the file system that a path lies in
abbrev pub type_of : List MountRow → List ℕ → Option (List ℕ)
type_of rows path = option_map (λ row. row.kind) (deciding rows path)

-- the device that a path lies in, or 0
abbrev pub device_of : List MountRow → List ℕ → ℕ
device_of rows path = option_map_or (λ row. packed_device row.major row.minor) (deciding rows path) 0

-- whether something is mounted at a path, whether or not the path is normal
abbrev pub is_at : List ℕ → MountRow → Bool
is_at path row = bytes_eq row.point path

-- whether an earlier mount already shows, at another path than this, what a row shows there: it has the same device
-- and a root that is a path prefix of the row's, and its mount point with the rest is another path
unfoldable pub shows_elsewhere : List ℕ → MountRow → MountRow → Bool
shows_elsewhere path row earlier =
    earlier.major == row.major && earlier.minor == row.minor
    && list_any (λ rest. not (bytes_eq (with_rest earlier.point rest) path)) (rests earlier.root row.root)

-- whether a normal path is where a directory is mounted that an earlier mount shows elsewhere:
-- the last row at the path decides, and any row before it may be the earlier one
unfoldable pub is_bind : List MountRow → List ℕ → Bool
is_bind rows path =
    is_normal path
    && option_map_or (λ row. list_any (shows_elsewhere path row) (before_last (is_at path) rows)) (last_or None (filter (is_at path) rows)) false
