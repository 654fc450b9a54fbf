-- Sets of states.
use Rattle.std.specs.Prelude.{◌≡◌, ℕ, suc, ◌<◌, Bool, true, false, List, [], ◌∷◌, length, take, slice_index_or, Contains}

-- the states inserted, in their order, each below the width
pub record Members : Type 0 where
  pub width : ℕ
  pub order : List ℕ

-- how many marks are set
abbrev pub marked : List Bool → ℕ
marked [] = 0
marked (true ∷ marks) = suc (marked marks)
marked (false ∷ marks) = marked marks

-- the first `count` of the listed states are the marked ones, each once
pub record AreMarked (order : List ℕ) (count : ℕ) (marks : List Bool) : Type 0 where
  pub same_length : length order ≡ length marks
  pub counted : count ≡ marked marks
  pub listed : (s : ℕ) → s < length marks → slice_index_or marks s false ≡ true → Contains (take count order) s
  pub below : (s : ℕ) → Contains (take count order) s → (s < length marks) × (slice_index_or marks s false ≡ true)
