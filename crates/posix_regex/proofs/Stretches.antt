-- The longest stretch, place by place.
use Rattle.std.proofs.Common.{◌≡◌, ◌⊎◌, ℕ, ◌+◌, ◌-◌, ◌^◌, ◌<◌, ◌≤◌, min, max, List, length, slice_get, get_or, ap, subst, inl, inr, ⊎_elim, arith}
use Rattle.std.proofs.lemmas.Bool.{cases_lt}
use Rattle.posix_regex.specs.Program.{Item}
use Rattle.posix_regex.specs.Literal.{reach_at, IsGate, TakesOnly, IsStretch}
use Rattle.posix_regex.proofs.Literals.{only_reach, only_inside}

-- the longest of the stretches that begin before a place, and how far the items before it lead
pub record Longest (items : List Item) (best most edge at : ℕ) : Type 0 where
  pub best_within : best ≤ length items
  pub at_within : at ≤ length items + 1
  pub passed : edge ≤ length items → (s : ℕ) → s < at → s + reach_at (slice_get items s) ≤ max edge at
  pub best_gate : IsGate items best
  pub alone : (k : ℕ) → k < most → (byte : ℕ) × TakesOnly (slice_get items (best + k)) byte
  pub longest : (other : ℕ) (more : List ℕ) → other < at → IsStretch items other more → length more ≤ most
  pub shut : (place : ℕ) → at ≤ place → place < edge → IsGate items place → ⊥

-- what was found at a place
pub record Found (items : List Item) (edge at run : ℕ) : Type 0 where
  pub alone : (k : ℕ) → k < run → (edge ≤ at) × ((byte : ℕ) × TakesOnly (slice_get items (at + k)) byte)
  pub ends : edge ≤ at → (byte : ℕ) → TakesOnly (slice_get items (at + run)) byte → ⊥
  pub none : at < edge → run ≡ 0
  pub within : at + run ≤ length items

pub longest_first : (items : List Item) → Longest items 0 0 0 0
longest_first items = record {
  best_within = omega arith;
  at_within = omega arith;
  passed = λ e s lt. absurd (omega arith);
  best_gate = λ s lt. absurd (omega arith);
  alone = λ k lt. absurd (omega arith);
  longest = λ other more lt st. absurd (omega arith);
  shut = λ place le lt g. absurd (omega arith);
}

module _ (items : List Item) (best most edge at run next : ℕ) (h : Longest items best most edge at) (f : Found items edge at run) (few : length items < 2 ^ 63) (inside : at < length items) (is : next ≡ max edge (min ((at + run) + reach_at (slice_get items (at + run))) (2 ^ 64 - 1))) where
  gate_here : 0 < run → IsGate items at
  gate_here some s lt = let a = (f.alone 0 some).0 in omega (arith, h.passed (omega (arith, a, inside)) s lt, a)

  -- what begins at this place, or on the way to where the row ends
  no_longer : (other : ℕ) (more : List ℕ) → at ≤ other → other ≤ at + run → IsStretch items other more → length more ≤ run
  no_longer other more from to st = ⊎_elim
      (λ (free : edge ≤ at). ⊎_elim
      (λ (fine : length more ≤ run). fine)
      (λ (long : run < length more).
      let k = (at + run) - other in
      let e : other + k ≡ at + run = omega arith in
      absurd (f.ends free (get_or more k 0) (subst (λ q. TakesOnly (slice_get items q) (get_or more k 0)) e (st.in_turn k (omega arith)))))
      (cases_le (length more) run))
      (λ (closed : at < edge).
      let e : run ≡ 0 = f.none closed in
      let same : other ≡ at = omega arith in
      absurd (h.shut other (omega arith) (omega arith) st.gate))
      (cases_le edge at) where
        cases_le : (a b : ℕ) → (a ≤ b) ⊎ (b < a)
        cases_le a b = ⊎_elim (λ lt. inr lt) (λ le. inl le) (cases_lt b a)

  passed_next : next ≤ length items → (s : ℕ) → s < at + run + 1 → s + reach_at (slice_get items s) ≤ max next (at + run + 1)
  passed_next le s lt = ⊎_elim
      (λ (before : s < at). omega (arith, h.passed (omega arith) s before))
      (λ (from : at ≤ s). ⊎_elim
      (λ (on : s < at + run).
      let e : at + (s - at) ≡ s = omega arith in
      let a = f.alone (s - at) (omega arith) in
      let r : reach_at (slice_get items s) ≡ 1 = subst (λ q. reach_at (slice_get items q) ≡ 1) e (only_reach (slice_get items (at + (s - at))) a.1.0 a.1.1) in
      omega arith)
      (λ (last : at + run ≤ s).
      let e : s ≡ at + run = omega arith in
      let r : reach_at (slice_get items s) ≡ reach_at (slice_get items (at + run)) = ap (λ q. reach_at (slice_get items q)) e in
      omega arith)
      (cases_lt s (at + run)))
      (cases_lt s at)

  shut_next : (place : ℕ) → at + run + 1 ≤ place → place < next → IsGate items place → ⊥
  shut_next place from lt gate = ⊎_elim
      (λ (before : place < edge). h.shut place (omega arith) before gate)
      (λ (past : edge ≤ place).
      let g : (at + run) + reach_at (slice_get items (at + run)) ≤ place = gate (at + run) (omega arith) in
      absurd (omega arith))
      (cases_lt place edge)

  -- where the row is longer than those before
  pub longest_more : most < run → Longest items at run next (at + run + 1)
  longest_more more = record {
    best_within = omega arith;
    at_within = omega (arith, f.within);
    passed = passed_next;
    best_gate = gate_here (omega arith);
    alone = λ k lt. (f.alone k lt).1;
    longest = λ other bytes lt st. ⊎_elim
        (λ (before : other < at). omega (arith, h.longest other bytes before st))
        (λ (from : at ≤ other). no_longer other bytes from (omega arith) st)
        (cases_lt other at);
    shut = shut_next;
  }

  -- where it is not
  pub longest_same : run ≤ most → Longest items best most next (at + run + 1)
  longest_same more = record {
    best_within = h.best_within;
    at_within = omega (arith, f.within);
    passed = passed_next;
    best_gate = h.best_gate;
    alone = h.alone;
    longest = λ other bytes lt st. ⊎_elim
        (λ (before : other < at). h.longest other bytes before st)
        (λ (from : at ≤ other). omega (arith, no_longer other bytes from (omega arith) st))
        (cases_lt other at);
    shut = shut_next;
  }

-- at the end
pub longest_last : (items : List Item) (best most edge at : ℕ) → Longest items best most edge at → length items ≤ at
    → (other : ℕ) (more : List ℕ) → IsStretch items other more → (k : ℕ) → k < length more → (byte : ℕ) × TakesOnly (slice_get items (best + k)) byte
longest_last items best most edge at h end other more st k lt =
    let only = st.in_turn 0 (omega arith) in
    let inside : other + 0 < length items = only_inside items (other + 0) (get_or more 0 0) only in
    h.alone k (omega (arith, h.longest other more (omega arith) st))
