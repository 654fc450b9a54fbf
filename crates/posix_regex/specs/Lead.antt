-- What a state leads to.
use Rattle.std.specs.Prelude.{◌≡◌, ◌⊎◌, ℕ, ◌+◌}
use Rattle.posix_regex.specs.declared.states.Lead.{Lead}
use Rattle.posix_regex.specs.declared.states.Lead.TheVariants.{Nowhere, Here, Both, Further}

-- what the call answers, for a state at a place of the text, names this state and this place
abbrev pub LeadsTo : Lead → ℕ → ℕ → ℕ → Type 0
LeadsTo Nowhere at u j = ⊥
LeadsTo (Here t) at u j = (u ≡ t) × (j ≡ at)
LeadsTo (Both t v) at u j = (j ≡ at) × ((u ≡ t) ⊎ (u ≡ v))
LeadsTo (Further t) at u j = (u ≡ t) × (j ≡ at + 1)
