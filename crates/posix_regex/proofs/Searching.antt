-- The search, place by place.
use Rattle.std.proofs.Common.{◌≡◌, ◌⊎◌, ℕ, zero, suc, ◌+◌, ◌-◌, ◌<◌, ◌≤◌, List, [], length, slice_get, Contains, Option, Some, None, refl, sym, ap, subst, ⊎_elim, arith}
use Rattle.std.proofs.lemmas.Bool.{cases_lt}
use Rattle.std.proofs.lemmas.Option.{slice_get_past}
use Rattle.posix_regex.specs.Program.{Item, Takes, AtStart, AtEnd, Fork, Back, Skip}
use Rattle.posix_regex.specs.Moves.{Leads, Reached, Silent, Still}
use Rattle.posix_regex.proofs.Sound.{lead_at}
use Rattle.posix_regex.proofs.Starts.{Begun, Ever}

-- a move stays at its place or goes to the next, and within the text
lead_forward : (text : List ℕ) (o : Option Item) (s i t j : ℕ) → i ≤ length text → Leads text o s i t j → (i ≤ j) × (j ≤ i + 1) × (j ≤ length text)
lead_forward text None s i t j within h = absurd h
lead_forward text (Some (Takes bytes)) s i t j within h = (omega (arith, h.1), omega (arith, h.1), omega (arith, h.1, h.2))
lead_forward text (Some AtStart) s i t j within h = (omega (arith, h.1), omega (arith, h.1), omega (arith, h.1))
lead_forward text (Some AtEnd) s i t j within h = (omega (arith, h.1), omega (arith, h.1), omega (arith, h.1))
lead_forward text (Some (Fork n)) s i t j within h = (omega (arith, h.0), omega (arith, h.0), omega (arith, h.0))
lead_forward text (Some (Back n)) s i t j within h = (omega (arith, h.0), omega (arith, h.0), omega (arith, h.0))
lead_forward text (Some (Skip n)) s i t j within h = (omega (arith, h.0), omega (arith, h.0), omega (arith, h.0))

lead_inside : (text : List ℕ) (items : List Item) (s i t j : ℕ) → Leads text (slice_get items s) s i t j → s < length items
lead_inside text items s i t j h = ⊎_elim
    (λ inside. inside)
    (λ past. absurd (lead_at text (slice_get items s) None s s i t j (slice_get_past items s past) refl h))
    (cases_lt s (length items))

pub begun_place : (Start : ℕ → Type 0) (text : List ℕ) (items : List Item) (n s i : ℕ) → Begun Start n items text s i → i ≤ length text
begun_place Start text items zero s i h = h.1
begun_place Start text items (suc n) s i h = (lead_forward text (slice_get items h.0) h.0 h.1 s i (begun_place Start text items n h.0 h.1 h.2) h.3).2

-- before the search begins at a place, and goes through the states there
pub record Waiting (Start : ℕ → Type 0) (items : List Item) (text now : List ℕ) (at : ℕ) : Type 0 where
  pub sound : (s : ℕ) → Contains now s → Reached items text s at
  pub fed : (t k s : ℕ) → k < at → Ever Start items text t k → Leads text (slice_get items t) t k s at → s ≤ length items → Contains now s
  pub none : (k : ℕ) → k < at → Ever Start items text (length items) k → ⊥

-- what going through them left
pub record Spread (items : List Item) (text now all next : List ℕ) (at : ℕ) : Type 0 where
  pub kept : (s : ℕ) → Contains now s → Contains all s
  pub next_sound : (s : ℕ) → Contains next s → Reached items text s (at + 1)
  pub closed : (s u j : ℕ) → Contains all s → Leads text (slice_get items s) s at u j → u ≤ length items → ((j ≡ at) × Contains all u) ⊎ ((j ≡ at + 1) × Contains next u)
  pub unfinished : Contains all (length items) → ⊥

module _ (items : List Item) (text from : List ℕ) (at : ℕ) (reached : (s : ℕ) → Contains from s → Reached items text s at) where
  silent_reached : (n s : ℕ) → Silent n items text from at s → Reached items text s at
  silent_reached zero s h = reached s h
  silent_reached (suc n) s h = let r = silent_reached n h.0 h.1 in (suc r.0, (h.0, at, r.1, h.2))

  pub still_reached : (s : ℕ) → Still items text from at s → Reached items text s at
  still_reached s h = silent_reached h.0 s h.1

  -- what one move by a byte leads to
  pub next_reached : (all : List ℕ) → ((t : ℕ) → Contains all t → Still items text from at t) → (s : ℕ) → (t : ℕ) × Contains all t × Leads text (slice_get items t) t at s (at + 1) → Reached items text s (at + 1)
  next_reached all sound s h = let r = still_reached h.0 (sound h.0 h.1) in (suc r.0, (h.0, at, r.1, h.2))

module _ (Start : ℕ → Type 0) (items : List Item) (text : List ℕ) where
  pub waiting_first : (order : List ℕ) → order ≡ [] → Waiting Start items text order 0
  waiting_first order empty = record {
    sound = λ s h. absurd (omega (arith, h.1, ap length empty));
    fed = λ t k s lt ever lead le. absurd (omega (arith, lt));
    none = λ k lt ever. absurd (omega (arith, lt));
  }

  module _ (now begun all next : List ℕ) (at : ℕ) (r : Waiting Start items text now at) (kept : (s : ℕ) → s ≤ length items → Contains now s → Contains begun s) (start : Start at → Contains begun 0) (p : Spread items text begun all next at) where
    pub all_there : (n s i : ℕ) → i ≡ at → Begun Start n items text s i → s ≤ length items → Contains all s
    all_there zero s i same h le = subst (λ x. Contains all x) (sym h.0) (p.kept 0 (start (subst Start same h.2)))
    all_there (suc n) s i same h le =
        let t = h.0 in
        let k = h.1 in
        let inside : t < length items = lead_inside text items t k s i h.3 in
        let f = lead_forward text (slice_get items t) t k s i (begun_place Start text items n t k h.2) h.3 in
        let lead : Leads text (slice_get items t) t k s at = subst (λ x. Leads text (slice_get items t) t k s x) same h.3 in
        let when : (k ≡ at) → Contains all t = λ e. all_there n t k e h.2 (omega (arith, inside)) in
        ⊎_elim
        (λ (before : k < at). p.kept s (kept s le (r.fed t k s before (n, h.2) lead le)))
        (λ (last : at ≤ k).
        let e : k ≡ at = omega (arith, last, f.0, same) in
        ⊎_elim (λ a. a.1) (λ a. absurd (omega (arith, a.0))) (p.closed t s at (when e) (subst (λ x. Leads text (slice_get items t) t x s at) e lead) le))
        (cases_lt k at)

    none_there : (k : ℕ) → k ≤ at → Ever Start items text (length items) k → ⊥
    none_there k le h = ⊎_elim
        (λ (before : k < at). r.none k before h)
        (λ (last : at ≤ k). p.unfinished (all_there h.0 (length items) k (omega (arith, last, le)) h.1 (omega arith)))
        (cases_lt k at)

    pub waiting_next : Waiting Start items text next (at + 1)
    waiting_next = record {
      sound = p.next_sound;
      fed = λ t k s lt ever lead le.
          let inside : t < length items = lead_inside text items t k s (at + 1) lead in
          let f = lead_forward text (slice_get items t) t k s (at + 1) (begun_place Start text items ever.0 t k ever.1) lead in
          let e : k ≡ at = omega (arith, lt, f.1) in
          ⊎_elim
          (λ a. absurd (omega (arith, a.0)))
          (λ a. a.1)
          (p.closed t s (at + 1) (all_there ever.0 t k e ever.1 (omega (arith, inside))) (subst (λ x. Leads text (slice_get items t) t x s (at + 1)) e lead) le);
      none = λ k lt h. none_there k (omega (arith, lt)) h;
    }

    pub waiting_done : length text ≤ at → (j : ℕ) → Ever Start items text (length items) j → ⊥
    waiting_done last j h = none_there j (omega (arith, last, begun_place Start text items h.0 (length items) j h.1)) h

  nothing : (at : ℕ) → Spread items text [] [] [] at
  nothing at = record {
    kept = λ s h. h;
    next_sound = λ s h. absurd (omega (arith, h.1));
    closed = λ s u j h lead le. absurd (omega (arith, h.1));
    unfinished = λ h. absurd (omega (arith, h.1));
  }

  -- where no state is left, and none may begin, the search goes on past the place
  waiting_later : (d at : ℕ) → Waiting Start items text [] at → ((k : ℕ) → at ≤ k → k < at + d → Start k → ⊥) → Waiting Start items text [] (at + d)
  waiting_later zero at r idle = subst (λ x. Waiting Start items text [] x) (let e : at ≡ at + 0 = omega arith in e) r
  waiting_later (suc d) at r idle =
      subst (λ x. Waiting Start items text [] x) (let e : (at + 1) + d ≡ at + suc d = omega arith in e)
      (waiting_later d (at + 1)
      (waiting_next [] [] [] [] at r (λ s le h. h) (λ here. absurd (idle at (omega arith) (omega arith) here)) (nothing at))
      (λ k low high. idle k (omega (arith, low)) (omega (arith, high))))

  pub waiting_at : (now : List ℕ) (at to : ℕ) → at < to → (at + 1 < to → now ≡ []) → ((k : ℕ) → at + 1 ≤ k → k < to → Start k → ⊥) → Waiting Start items text now (at + 1) → Waiting Start items text now to
  waiting_at now at to further empty idle r = ⊎_elim
      (λ (skips : at + 1 < to).
      let none : now ≡ [] = empty skips in
      let e : (at + 1) + (to - (at + 1)) ≡ to = omega (arith, skips) in
      subst (λ l. Waiting Start items text l to) (sym none)
      (subst (λ x. Waiting Start items text [] x) e
      (waiting_later (to - (at + 1)) (at + 1) (subst (λ l. Waiting Start items text l (at + 1)) none r) (λ k low high. idle k low (omega (arith, high, e))))))
      (λ (next : to ≤ at + 1). subst (λ x. Waiting Start items text now x) (let e : at + 1 ≡ to = omega (arith, next, further) in e) r)
      (cases_lt (at + 1) to)
