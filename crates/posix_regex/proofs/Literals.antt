-- What a stretch of items asks of a text.
use Rattle.std.proofs.Common.{◌≡◌, ◌⊎◌, ℕ, zero, suc, ◌+◌, ◌<◌, ◌≤◌, List, length, slice_get, get_or, Option, Some, None, refl, sym, ap, ◌∙◌, subst, inl, inr, ⊎_elim, arith}
use Rattle.std.proofs.lemmas.Bool.{cases_lt}
use Rattle.std.proofs.lemmas.Option.{slice_get_past}
use Rattle.posix_regex.specs.Program.{Item, Takes, AtStart, AtEnd, Fork, Back, Skip}
use Rattle.posix_regex.specs.Moves.{Leads, Comes, ReachesEnd}
use Rattle.posix_regex.specs.Literal.{reach_at, TakesOnly, IsStretch, Occurs}

-- a move goes no further than the item's reach
lead_reach : (text : List ℕ) (o : Option Item) (s i t j : ℕ) → Leads text o s i t j → t ≤ s + reach_at o
lead_reach text None s i t j h = absurd h
lead_reach text (Some (Takes bytes)) s i t j h = omega (arith, h.0)
lead_reach text (Some AtStart) s i t j h = omega (arith, h.0)
lead_reach text (Some AtEnd) s i t j h = omega (arith, h.0)
lead_reach text (Some (Fork n)) s i t j h = ⊎_elim (λ (e : t ≡ s + 1). omega arith) (λ (e : t ≡ s + n). omega arith) h.1
lead_reach text (Some (Back n)) s i t j h = ⊎_elim (λ (e : t ≡ s + 1). omega arith) (λ (e : t + n ≡ s). omega arith) h.1
lead_reach text (Some (Skip n)) s i t j h = omega (arith, h.1)

-- a move from an item that takes one byte alone goes over that byte
lead_only : (text : List ℕ) (o : Option Item) (byte s i t j : ℕ) → TakesOnly o byte → Leads text o s i t j → (t ≡ s + 1) × (j ≡ i + 1) × (i < length text) × (get_or text i 0 ≡ byte)
lead_only text None byte s i t j only h = absurd h
lead_only text (Some (Takes bytes)) byte s i t j only h = (h.0, h.1, h.2, (only (get_or text i 0)).0 h.3)
lead_only text (Some AtStart) byte s i t j only h = absurd only
lead_only text (Some AtEnd) byte s i t j only h = absurd only
lead_only text (Some (Fork n)) byte s i t j only h = absurd only
lead_only text (Some (Back n)) byte s i t j only h = absurd only
lead_only text (Some (Skip n)) byte s i t j only h = absurd only

-- such an item leads one place further
pub only_reach : (o : Option Item) (byte : ℕ) → TakesOnly o byte → reach_at o ≡ 1
only_reach None byte only = absurd only
only_reach (Some (Takes bytes)) byte only = refl
only_reach (Some AtStart) byte only = absurd only
only_reach (Some AtEnd) byte only = absurd only
only_reach (Some (Fork n)) byte only = absurd only
only_reach (Some (Back n)) byte only = absurd only
only_reach (Some (Skip n)) byte only = absurd only

-- past the end no item takes a byte
pub only_inside : (items : List Item) (s byte : ℕ) → TakesOnly (slice_get items s) byte → s < length items
only_inside items s byte only = ⊎_elim
    (λ inside. inside)
    (λ past. absurd (subst (λ o. TakesOnly o byte) (slice_get_past items s past) only))
    (cases_lt s (length items))

-- so many bytes of the stretch were just taken
record Partway (text bytes : List ℕ) (place s i : ℕ) : Type 0 where
  pub count : ℕ
  pub from : ℕ
  pub stands : s ≡ place + count
  pub few : count ≤ length bytes
  pub here : i ≡ from + count
  pub within : i ≤ length text
  pub same : (k : ℕ) → k < count → get_or text (from + k) 0 ≡ get_or bytes k 0

module _ (text : List ℕ) (items : List Item) (place : ℕ) (bytes : List ℕ) (h : IsStretch items place bytes) where
  abbrev SoFar : ℕ → ℕ → Type 0
  SoFar s i = (s ≤ place) ⊎ (Partway text bytes place s i ⊎ Occurs text bytes)

  whole : (s i : ℕ) → (p : Partway text bytes place s i) → length bytes ≤ p.count → Occurs text bytes
  whole s i p all = (p.from, record { fits = omega (arith, p.here, p.within, p.few, all); reads = λ j lt. p.same j (omega (arith, lt, p.few, all)) })

  begun : (s i : ℕ) → s ≡ place → i ≤ length text → Partway text bytes place s i
  begun s i e within = record { count = 0; from = i; stands = omega (arith, e); few = omega arith; here = omega arith; within = within; same = λ k lt. absurd (omega arith) }

  more : (t k s i : ℕ) → (p : Partway text bytes place t k) → p.count < length bytes → Leads text (slice_get items t) t k s i → Partway text bytes place s i
  more t k s i p lt lead =
      let only : TakesOnly (slice_get items t) (get_or bytes p.count 0) = subst (λ q. TakesOnly (slice_get items q) (get_or bytes p.count 0)) (sym p.stands) (h.in_turn p.count lt) in
      let g = lead_only text (slice_get items t) (get_or bytes p.count 0) t k s i only lead in
      record {
        count = p.count + 1;
        from = p.from;
        stands = omega (arith, g.0, p.stands);
        few = omega (arith, lt);
        here = omega (arith, g.1, p.here);
        within = omega (arith, g.1, g.2);
        same = λ n below. ⊎_elim
            (λ (before : n < p.count). p.same n before)
            (λ (last : p.count ≤ n).
            let e : n ≡ p.count = omega (arith, last, below) in
            let there : p.from + n ≡ k = omega (arith, e, p.here) in
            ap (λ q. get_or text q 0) there ∙ g.3 ∙ ap (λ q. get_or bytes q 0) (sym e))
            (cases_lt n p.count);
      }

  onward : (t k s i : ℕ) → Partway text bytes place t k → Leads text (slice_get items t) t k s i → SoFar s i
  onward t k s i p lead = ⊎_elim
      (λ (lt : p.count < length bytes). inr (inl (more t k s i p lt lead)))
      (λ (all : length bytes ≤ p.count). inr (inr (whole t k p all)))
      (cases_lt p.count (length bytes))

  step : (t k s i : ℕ) → k ≤ length text → SoFar t k → Leads text (slice_get items t) t k s i → SoFar s i
  step t k s i within (inl before) lead = ⊎_elim
      (λ (lt : t < place). inl (omega (arith, lead_reach text (slice_get items t) t k s i lead, h.gate t lt)))
      (λ (ge : place ≤ t). onward t k s i (begun t k (omega (arith, before, ge)) within) lead)
      (cases_lt t place)
  step t k s i within (inr (inl p)) lead = onward t k s i p lead
  step t k s i within (inr (inr o)) lead = inr (inr o)

  so_far : (n s i : ℕ) → Comes n items text s i → (i ≤ length text) × SoFar s i
  so_far zero s i c = (c.1, inl (omega (arith, c.0)))
  so_far (suc n) s i c =
      let b = so_far n c.0 c.1 c.2 in
      (lead_inside_text (slice_get items c.0) c.0 c.1 s i b.0 c.3, step c.0 c.1 s i b.0 b.1 c.3) where
        lead_inside_text : (o : Option Item) (s i t j : ℕ) → i ≤ length text → Leads text o s i t j → j ≤ length text
        lead_inside_text None s i t j within lead = absurd lead
        lead_inside_text (Some (Takes b)) s i t j within lead = omega (arith, lead.1, lead.2)
        lead_inside_text (Some AtStart) s i t j within lead = omega (arith, lead.1)
        lead_inside_text (Some AtEnd) s i t j within lead = omega (arith, lead.1)
        lead_inside_text (Some (Fork m)) s i t j within lead = omega (arith, lead.0)
        lead_inside_text (Some (Back m)) s i t j within lead = omega (arith, lead.0)
        lead_inside_text (Some (Skip m)) s i t j within lead = omega (arith, lead.0)

  at_end : (i : ℕ) → i ≤ length text → SoFar (length items) i → Occurs text bytes
  at_end i within (inl before) = ⊎_elim
      (λ (some : 0 < length bytes). absurd (omega (arith, only_inside items (place + 0) (get_or bytes 0 0) (h.in_turn 0 some), before)))
      (λ (none : length bytes ≤ 0). (0, record { fits = omega arith; reads = λ j lt. absurd (omega (arith, lt, none)) }))
      (cases_lt 0 (length bytes))
  at_end i within (inr (inl p)) = ⊎_elim
      (λ (lt : p.count < length bytes). absurd (omega (arith, only_inside items (place + p.count) (get_or bytes p.count 0) (h.in_turn p.count lt), p.stands)))
      (λ (all : length bytes ≤ p.count). whole (length items) i p all)
      (cases_lt p.count (length bytes))
  at_end i within (inr (inr o)) = o

  -- the items come to their end in no text that doesn't hold the bytes
  pub stretch_occurs : ReachesEnd items text → Occurs text bytes
  stretch_occurs end =
      let b = so_far end.1.0 (length items) end.0 end.1.1 in
      at_end end.0 b.0 b.1
