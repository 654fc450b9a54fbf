-- Counts of faults that don't fall.
use Rattle.std.specs.Prelude.{ℕ, ◌+◌, ◌≤◌}
use Rattle.std.proofs.Math.Nat.{le_trans, le_refl, le-min, min-le_left, min-le_right, add-le-add}
use Rattle.loc_outside.specs.Causes.{Rose, last_count}

-- a count that rose at first has risen in all
pub rose_first : (a b c : ℕ) → Rose a b → b ≤ c → Rose a c
rose_first a b c r le = le_trans r le

-- and so has one that rose at last
pub rose_last : (a b c : ℕ) → a ≤ b → Rose b c → Rose a c
rose_last a b c le r = le_trans (le-min (le_trans (min-le_left (a + 1) last_count) (add-le-add le (le_refl 1))) (min-le_right (a + 1) last_count)) r

pub at_most_trans : (a b c : ℕ) → a ≤ b → b ≤ c → a ≤ c
at_most_trans a b c h k = le_trans h k

pub at_most_itself : (a : ℕ) → a ≤ a
at_most_itself a = le_refl a
