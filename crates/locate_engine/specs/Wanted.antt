-- Which paths are wanted.
use Rattle.std.specs.Prelude.{ℕ, Bool, List, [], ◌∷◌, nat_eq, ◌||◌}
use Rattle.std.specs.List.{starts_with}

-- the text stands in the path, from some place on
abbrev pub occurs : List ℕ → List ℕ → Bool
occurs text [] = starts_with nat_eq [] text
occurs text (byte ∷ path) = starts_with nat_eq (byte ∷ path) text || occurs text path
