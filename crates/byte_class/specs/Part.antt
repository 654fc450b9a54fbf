-- What stands in a bracket expression.
use Rattle.std.specs.Prelude.{ℕ, Bool, List}
use Rattle.std.specs.List.{list_any}
use Rattle.std.specs.Int.{is_in_range}
use Rattle.byte_class.specs.Class.{class_named, name_has}

-- what stands in a bracket expression: a character class by its name, or a range of bytes, also of one alone
pub data Part : Type 0 where
  Named : List ℕ → Part
  Range : ℕ → ℕ → Part

-- whether a part has a byte; a range whose end is below its start has none
unfoldable pub has_part : Part → ℕ → Bool
has_part (Named name) byte = name_has (class_named name) byte
has_part (Range low high) byte = is_in_range low high byte

-- whether some part has a byte
unfoldable pub has_parts : List Part → ℕ → Bool
has_parts parts byte = list_any (λ part. has_part part byte) parts
