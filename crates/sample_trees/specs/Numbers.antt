-- The numbers that a sample is drawn by.
use Rattle.std.specs.Prelude.{ℕ, zero, suc, ◌+◌, ◌*◌, ◌/◌, ◌%◌, ◌^◌}

-- the state after one more draw
unfoldable pub next_state : ℕ → ℕ
next_state state = (state * 6364136223846793005 + 1442695040888963407) % 2 ^ 64

-- what a draw gives, below a bound, from the state after it
unfoldable pub given_by : ℕ → ℕ → ℕ
given_by state below = state / 2 ^ 33 % below

-- the state after so many draws
unfoldable pub state_after : ℕ → ℕ → ℕ
state_after number zero = number
state_after number (suc draws) = next_state (state_after number draws)

-- what a draw below `below` gives after so many others
unfoldable pub drawn : ℕ → ℕ → ℕ → ℕ
drawn number before below = given_by (state_after number (suc before)) below
