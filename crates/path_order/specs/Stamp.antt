-- Moments.
use Rattle.std.specs.Prelude.{ℕ, Bool, ◌+◌, ◌*◌, nat_lt, nat_le, if◌then◌else◌}

-- seconds and nanoseconds
pub record Moment : Type 0 where
  pub seconds : ℕ
  pub nanos : ℕ

-- the moment as one number, in nanoseconds
abbrev pub nanoseconds : Moment → ℕ
nanoseconds m = m.seconds * 1000000000 + m.nanos

-- the later of two moments
abbrev pub later_of : Moment → Moment → Moment
later_of a b = if nat_lt (nanoseconds a) (nanoseconds b) then b else a

-- whether the stamp and so many seconds more are at least the moment
abbrev pub is_recent : Moment → Moment → ℕ → Bool
is_recent stamp now margin = nat_le (nanoseconds now) (nanoseconds stamp + margin * 1000000000)
