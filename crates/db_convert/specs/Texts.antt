-- Texts that lie one after another.
use Rattle.std.specs.Prelude.{◌≡◌, ℕ, ◌-◌, ◌≤◌, List, [], ◌∷◌, take, drop}

-- the texts that end at these places, the first of which begins here
abbrev pub texts_from : List ℕ → ℕ → List ℕ → List (List ℕ)
texts_from bytes start [] = []
texts_from bytes start (end ∷ ends) = take (end - start) (drop start bytes) ∷ texts_from bytes end ends

-- These places cut all bytes from here on into texts.
abbrev pub IsCut : ℕ → List ℕ → ℕ → Type 0
IsCut start [] len = start ≡ len
IsCut start (end ∷ ends) len = (start ≤ end) × IsCut end ends len
