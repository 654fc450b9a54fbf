-- What a gate tells of directories and paths.
use Rattle.std.specs.Prelude.{ℕ, Bool, List}

-- which directories are shown, and which paths exist, where a link in the last place is followed and where not
pub record Tests : Type 0 where
  pub shows : List ℕ → Bool
  pub exists : Bool → List ℕ → Bool
