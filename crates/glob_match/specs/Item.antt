-- The items of a pattern.
use Rattle.std.specs.Prelude.{ℕ, List, Contains}

-- an item stands for any bytes, or for one byte out of some, in rising order
pub data Item : Type 0 where
  Star : Item
  OneOf : List ℕ → Item

-- the item stands for one byte out of some, and this is one of them; a star is never asked
abbrev pub Takes : Item → ℕ → Type 0
Takes Star byte = ⊥
Takes (OneOf bytes) byte = Contains bytes byte
