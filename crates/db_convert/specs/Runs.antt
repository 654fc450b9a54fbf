-- Paths of one directory that stand side by side.
use Rattle.std.specs.Prelude.{ℕ, ◌-◌, List}
use Rattle.std.specs.List.{range_with_len}
use Rattle.db_convert.specs.declared.order.Run.{Run}

-- the places of a run
abbrev pub places_in : Run → List ℕ
places_in run = range_with_len run.first (run.end - run.first)
