-- What is scanned, and how it is written.
use Rattle.std.specs.Prelude.{ℕ, Bool, List}

-- The root; the version of the database, and its flag: whether paths are shown only to those who may list their
-- directories; whether each path is echoed; the configuration block; the recency margin in seconds; which paths are
-- pruned, and the device of each.
pub record Plan : Type 0 where
  pub root : List ℕ
  pub version : ℕ
  pub flag : Bool
  pub verbose : Bool
  pub block : List ℕ
  pub margin : ℕ
  pub pruned : List ℕ → Bool
  pub device_of : List ℕ → ℕ
