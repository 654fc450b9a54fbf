-- Draws one after another.
use Rattle.std.proofs.Common.{◌≡◌, ℕ, zero, suc, ◌+◌, refl, ◌∙◌, ap, arith}
use Rattle.sample_trees.specs.Numbers.{next_state, given_by, state_after, drawn}

-- draws go on from where others ended
pub state_after-state_after : (seed before draws : ℕ) → state_after (state_after seed before) draws ≡ state_after seed (before + draws)
unfolding state_after
state_after-state_after seed before zero = let e : before ≡ before + zero = omega arith in ap (state_after seed) e
state_after-state_after seed before (suc draws) =
    let e : suc (before + draws) ≡ before + suc draws = omega arith in
    ap next_state (state_after-state_after seed before draws) ∙ ap (state_after seed) e

pub drawn-state_after : (seed before more below : ℕ) → drawn (state_after seed before) more below ≡ drawn seed (before + more) below
unfolding drawn
drawn-state_after seed before more below =
    let e : before + suc more ≡ suc (before + more) = omega arith in
    ap (λ (s : ℕ). given_by s below) (state_after-state_after seed before (suc more) ∙ ap (state_after seed) e)

-- a draw after others
pub drawn_at : (seed before below state result : ℕ) → state ≡ state_after seed before → result ≡ given_by (next_state state) below → result ≡ drawn seed before below
unfolding drawn state_after
drawn_at seed before below state result s r = r ∙ ap (λ (x : ℕ). given_by (next_state x) below) s

pub state_more : (seed before state : ℕ) → state ≡ state_after seed before → next_state state ≡ state_after seed (before + 1)
unfolding state_after
state_more seed before state s =
    let e : suc before ≡ before + 1 = omega arith in
    ap next_state s ∙ ap (state_after seed) e

pub no_draws : (seed : ℕ) → seed ≡ state_after seed 0
unfolding state_after
no_draws seed = refl

pub states_on : (seed before more total state : ℕ) → state ≡ state_after seed before → before + more ≡ total → state_after state more ≡ state_after seed total
states_on seed before more total state s e = ap (λ (x : ℕ). state_after x more) s ∙ state_after-state_after seed before more ∙ ap (state_after seed) e
