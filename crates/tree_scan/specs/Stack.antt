-- Pending paths, which lie in one text.
use Rattle.std.specs.Prelude.{ℕ, List, [], ◌∷◌, take, drop, All, IsTrue}
use Rattle.path_order.specs.Path.{is_normal}

-- the paths that begin at these places, the last place first: each goes on to where the one before begins
abbrev pub paths_at : List ℕ → List ℕ → List (List ℕ)
paths_at text [] = []
paths_at text (start ∷ starts) = drop start text ∷ paths_at (take start text) starts

abbrev pub AllNormal : List (List ℕ) → Type 0
AllNormal paths = All (λ p. IsTrue (is_normal p)) paths
