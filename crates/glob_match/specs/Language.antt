-- The texts that a list of items matches.
use Rattle.std.specs.Prelude.{◌≡◌, ℕ, List, [], ◌∷◌, ◌++◌, Contains}
use Rattle.glob_match.specs.Item.{Item, Star, OneOf}

-- no item matches the empty text alone; a star, where the text is two parts and the rest of the
-- items matches the second; one of some bytes, where it is first and the rest matches the rest
abbrev pub Matches : List Item → List ℕ → Type 0
Matches [] text = text ≡ []
Matches (Star ∷ items) text =
    (front : List ℕ) × (rest : List ℕ) × (text ≡ front ++ rest) × Matches items rest
Matches (OneOf bytes ∷ items) [] = ⊥
Matches (OneOf bytes ∷ items) (byte ∷ text) = Contains bytes byte × Matches items text
