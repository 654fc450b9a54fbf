-- The steps of the walk, and why it ends.
use Rattle.std.proofs.Common.{◌≡◌, ℕ, ◌+◌, ◌-◌, ◌*◌, ◌<◌, ◌≤◌, subst, arith}
use Rattle.std.proofs.Math.Nat.{mul-le-mul_right}

-- what is left to be done: fewer places to go back to, or fewer items
abbrev pub left_over : ℕ → ℕ → ℕ → ℕ → ℕ
left_over items text item from = (text - from) * (items + 1) + (items - item)

-- each place to go back to is paid by a step for each item, and each item by one
abbrev pub spent : ℕ → ℕ → ℕ → ℕ → ℕ
spent start items item from = start + from * (items + 1) + item

pub spent-star : (start items item at from : ℕ) → from ≤ at → spent start items item from ≤ spent start items (item + 1) at
spent-star start items item at from later = omega (arith, mul-le-mul_right (items + 1) later)

pub spent-restart_more : (start items item restart from : ℕ) → item ≤ items → 0 < restart → spent start items item from + 1 ≤ spent start items restart (from + 1)
spent-restart_more start items item restart from within some = omega arith

pub spent-restart_step_more : (start items item restart from : ℕ) → item < items → 0 < restart → spent start items item from + 2 ≤ spent start items restart (from + 1)
spent-restart_step_more start items item restart from within some = omega arith

-- the places that are passed over pay for their own steps
on_by : (start items restart from n steps steps' : ℕ) → steps + 1 ≤ spent start items restart from → steps' ≤ steps + n + 1 → steps' ≤ spent start items restart (from + n)
on_by start items restart from n steps steps' paid more = omega arith

pub spent-on : (start items restart from to steps steps' : ℕ) → from ≤ to → steps + 1 ≤ spent start items restart from → steps' ≤ steps + (to - from) + 1 → steps' ≤ spent start items restart to
spent-on start items restart from to steps steps' forth paid more =
    let gap : from + (to - from) ≡ to = omega arith in
    subst (λ (k : ℕ). steps' ≤ spent start items restart k) gap (on_by start items restart from (to - from) steps steps' paid more)
