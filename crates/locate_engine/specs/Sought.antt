-- What is sought.
use Rattle.std.specs.Prelude.{ℕ, Bool, List}
use Rattle.byte_feed.specs.Calls.{Shares}

-- a test on paths, and the most steps that it takes to tell of each
pub record Sought : Type 0 where
  pub wanted : List ℕ → Bool
  pub bound : List ℕ → ℕ

-- the path begins with so many bytes of one of which this is known
abbrev pub Follows : (List ℕ → Type 0) → ℕ → List ℕ → Type 0
Follows knows shared path = (before : List ℕ) × knows before × Shares shared before path
