-- Counts that don't fall, and why a call failed.
use Rattle.std.specs.Prelude.{ℕ, ◌+◌, ◌-◌, ◌^◌, ◌≤◌, ◌<◌, min, max, Result, OnErr}
use Rattle.std.proofs.Common.{lit<}
use Rattle.std.proofs.Math.Nat.{lt_of_le_of_lt, min-le_right}

-- the greatest count
abbrev pub last_count : ℕ
last_count = 2 ^ 64 - 1

-- a count after it rose by n, which stands still at its last value
abbrev pub raised : ℕ → ℕ → ℕ
raised before n = max before (min (before + n) last_count)

-- the count rose, or stands at its last value
abbrev pub Rose : ℕ → ℕ → Type 0
Rose before now = min (before + 1) last_count ≤ now

-- the count of faults did not fall, and it rose where the call failed
pub record HasCause {T E : Type 0} (before now : ℕ) (result : Result T E) : Type 0 where
  pub later : before ≤ now
  pub failed : OnErr result (Rose before now)

-- a count that stops at the last one is below 2^64
pub stays_below : (n : ℕ) → min n last_count < 2 ^ 64
stays_below n = lt_of_le_of_lt (min-le_right n last_count) (lit< tt)
