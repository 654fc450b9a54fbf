-- What contracts see of the host.
use Rattle.std.specs.Prelude.{ℕ, Bool}

-- how many bytes were given, and how many calls have failed
pub record Counts : Type 0 where
  pub given : ℕ
  pub faults : ℕ

-- how many bytes are held back, and how many calls have failed
pub record BufferCounts : Type 0 where
  pub held_back : ℕ
  pub faults : ℕ

-- how many names were begun, and how many calls have failed
pub record OutputCounts : Type 0 where
  pub begins : ℕ
  pub faults : ℕ

-- whether a listing is open, how often a directory was opened and looked up, and how many calls have failed
pub record TreeCounts : Type 0 where
  pub listing : Bool
  pub openings : ℕ
  pub stats : ℕ
  pub faults : ℕ

-- how often a gate was asked, and how many calls have failed
pub record GateCounts : Type 0 where
  pub asks : ℕ
  pub faults : ℕ
