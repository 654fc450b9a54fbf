-- Items that begin at some places of a text.
use Rattle.std.proofs.Common.{◌≡◌, ◌⊎◌, ℕ, zero, suc, ◌<◌, ◌≤◌, List, [], length, slice_get, slice_index, Option, Some, None, refl, sym, subst, inl, inr, ⊎_elim, arith}
use Rattle.std.proofs.lemmas.Bool.{cases_lt}
use Rattle.std.proofs.lemmas.Option.{slice_get_past}
use Rattle.posix_regex.specs.Program.{Item, Takes, AtStart, AtEnd, Fork, Back, Skip}
use Rattle.posix_regex.specs.Moves.{Leads, Comes, Reached, ReachesEnd}
use Rattle.posix_regex.specs.First.{CanTake, AreFirst, MayBegin, LacksAll}

-- so many moves lead from the first item, at a place where it may begin, to an item and a place
abbrev pub Begun : (ℕ → Type 0) → ℕ → List Item → List ℕ → ℕ → ℕ → Type 0
Begun Start zero items text s i = (s ≡ 0) × (i ≤ length text) × Start i
Begun Start (suc count) items text s i =
    (t : ℕ) × (k : ℕ) × Begun Start count items text t k × Leads text (slice_get items t) t k s i

abbrev pub Ever : (ℕ → Type 0) → List Item → List ℕ → ℕ → ℕ → Type 0
Ever Start items text s i = (count : ℕ) × Begun Start count items text s i

-- a move without a byte is one in the empty text
silent_or_takes : (text : List ℕ) (o : Option Item) (s i t j : ℕ) → Leads text o s i t j → ((i ≡ j) × Leads [] o s 0 t 0) ⊎ ((i < length text) × CanTake o (slice_index text i))
silent_or_takes text None s i t j h = absurd h
silent_or_takes text (Some (Takes bytes)) s i t j h = inr (h.2, h.3)
silent_or_takes text (Some AtStart) s i t j h = inl (sym h.1, (h.0, refl, refl))
silent_or_takes text (Some AtEnd) s i t j h = inl (sym h.1, (h.0, refl, refl))
silent_or_takes text (Some (Fork n)) s i t j h = inl (sym h.0, (refl, h.1))
silent_or_takes text (Some (Back n)) s i t j h = inl (sym h.0, (refl, h.1))
silent_or_takes text (Some (Skip n)) s i t j h = inl (sym h.0, (refl, h.1))

-- past the end no item takes a byte
pub can_inside : (items : List Item) (s byte : ℕ) → CanTake (slice_get items s) byte → s < length items
can_inside items s byte can = ⊎_elim
    (λ inside. inside)
    (λ past. absurd (subst (λ o. CanTake o byte) (slice_get_past items s past) can))
    (cases_lt s (length items))

module _ (items : List Item) (text : List ℕ) where
  begun_more : (P Q : ℕ → Type 0) → ((k : ℕ) → P k → Q k) → (n s i : ℕ) → Begun P n items text s i → Begun Q n items text s i
  begun_more P Q f zero s i h = (h.0, h.1, f i h.2)
  begun_more P Q f (suc n) s i h = (h.0, h.1, begun_more P Q f n h.0 h.1 h.2, h.3)

  begun_nowhere : (P : ℕ → Type 0) → ((k : ℕ) → k ≤ length text → P k → ⊥) → (n s i : ℕ) → Begun P n items text s i → ⊥
  begun_nowhere P none zero s i h = none i h.1 h.2
  begun_nowhere P none (suc n) s i h = begun_nowhere P none n h.0 h.1 h.2

  pub begun_anywhere : (P : ℕ → Type 0) → ((k : ℕ) → P k) → (n s i : ℕ) → Comes n items text s i → Begun P n items text s i
  begun_anywhere P all zero s i h = (h.0, h.1, all i)
  begun_anywhere P all (suc n) s i h = (h.0, h.1, begun_anywhere P all n h.0 h.1 h.2, h.3)

  module _ (bytes : List ℕ) (first : AreFirst items (Some bytes)) (fits : (i : ℕ) → i < length text → slice_index text i < 256) where
    abbrev Start : ℕ → Type 0
    Start = MayBegin text (Some bytes)

    -- what is reached was begun where it may, or no byte was taken yet
    started : (n s i : ℕ) → Comes n items text s i → Ever Start items text s i ⊎ (Reached items [] s 0 × Ever (λ k. k ≡ i) items text s i)
    started zero s i h = inr ((0, (h.0, omega arith)), (0, (h.0, h.1, refl)))
    started (suc n) s i h =
        let t = h.0 in
        let k = h.1 in
        ⊎_elim
        (λ b. inl (suc b.0, (t, k, b.1, h.3)))
        (λ e. ⊎_elim
        (λ silent. inr (
          (suc e.0.0, (t, 0, e.0.1, silent.1)),
          (suc e.1.0, (t, k, begun_more (λ x. x ≡ k) (λ x. x ≡ i) (λ x same. subst (λ y. x ≡ y) silent.0 same) e.1.0 t k e.1.1, h.3)),
        ))
        (λ takes.
        let start : Start k = (takes.0, (first.1 (slice_index text k) (fits k takes.0)).1 (t, e.0, takes.1)) in
        inl (suc e.1.0, (t, k, begun_more (λ x. x ≡ k) Start (λ x same. subst Start (sym same) start) e.1.0 t k e.1.1, h.3)))
        (silent_or_takes text (slice_get items t) t k s i h.3))
        (started n t k h.2)

  pub end_begun : (first : Option (List ℕ)) → AreFirst items first → ((i : ℕ) → i < length text → slice_index text i < 256) → (j : ℕ) → Reached items text (length items) j → Ever (MayBegin text first) items text (length items) j
  end_begun None first fits j h = (h.0, begun_anywhere (MayBegin text None) (λ k. tt) h.0 (length items) j h.1)
  end_begun (Some bytes) first fits j h =
      ⊎_elim (λ b. b) (λ e. absurd (first.0 (0, e.0))) (started bytes first fits h.0 (length items) j h.1)

  no_start : (first : Option (List ℕ)) → LacksAll text first → (k : ℕ) → k ≤ length text → MayBegin text first k → ⊥
  no_start None lacks k within h = lacks
  no_start (Some bytes) lacks k within h = lacks k h.0 h.1

  pub none_begins : (first : Option (List ℕ)) → AreFirst items first → ((i : ℕ) → i < length text → slice_index text i < 256) → LacksAll text first → ReachesEnd items text → ⊥
  none_begins first is fits lacks h =
      let b = end_begun first is fits h.0 h.1 in
      begun_nowhere (MayBegin text first) (no_start first lacks) b.0 (length items) h.0 b.1
