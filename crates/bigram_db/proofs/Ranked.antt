-- The pairs that come at all, in order.
use Rattle.std.proofs.Common.{◌≡◌, ℕ, ◌<◌, Bool, true, false, eqb, ltb, refl, sym, ◌∙◌, inl, inr, ◌⊎◌, arith}
use Rattle.std.specs.Prelude.{◌&&◌, ◌||◌}
use Rattle.std.specs.List.{filter}
use Rattle.std.proofs.lemmas.Bool.{and_parts, and_from, eqb-true, eq-eqb, ltb-true, lt-ltb, cases_lt}
use Rattle.bigram_db.specs.Pairs.{Pair}
use Rattle.bigram_db.specs.Chosen.{is_counted, is_smaller, comes_before, all_pairs, ranked}
use Rattle.bigram_db.proofs.InOrder.{Among, Ordered, IsOrder, among_filter, filter_among, apart_filter, among_in_order, in_order_among, ordered_in_order}
use Rattle.bigram_db.proofs.Grid.{among_pairs, pairs_among, pairs_apart}

or_parts : (a b : Bool) → (a || b) ≡ true → (a ≡ true) ⊎ (b ≡ true)
or_parts true b e = inl refl
or_parts false b e = inr e

or_left : (a b : Bool) → a ≡ true → (a || b) ≡ true
or_left true b e = refl
or_left false b e = absurd cc

or_right : (a b : Bool) → b ≡ true → (a || b) ≡ true
or_right true b e = refl
or_right false b e = e

-- ---- smaller by bytes

abbrev pub Smaller : Pair → Pair → Type 0
Smaller p q = (p.0 < q.0) ⊎ ((p.0 ≡ q.0) × (p.1 < q.1))

pub smaller_true : (p q : Pair) → is_smaller p q ≡ true → Smaller p q
smaller_true p q e = elim (or_parts (ltb p.0 q.0) (eqb p.0 q.0 && ltb p.1 q.1) e) [
  | inl less ↦ inl (ltb-true p.0 q.0 less)
  | inr tie ↦ let h = and_parts (eqb p.0 q.0) (ltb p.1 q.1) tie in inr (eqb-true p.0 q.0 h.0, ltb-true p.1 q.1 h.1)
]

pub true_smaller : (p q : Pair) → Smaller p q → is_smaller p q ≡ true
true_smaller p q (inl less) = or_left (ltb p.0 q.0) (eqb p.0 q.0 && ltb p.1 q.1) (lt-ltb p.0 q.0 less)
true_smaller p q (inr tie) = or_right (ltb p.0 q.0) (eqb p.0 q.0 && ltb p.1 q.1) (and_from (eqb p.0 q.0) (ltb p.1 q.1) (eq-eqb p.0 q.0 tie.0) (lt-ltb p.1 q.1 tie.1))

smaller_on : (p q r : Pair) → Smaller p q → Smaller q r → Smaller p r
smaller_on p q r (inl a) (inl b) = inl (omega (arith, a, b))
smaller_on p q r (inl a) (inr b) = inl (omega (arith, a, b.0))
smaller_on p q r (inr a) (inl b) = inl (omega (arith, a.0, b))
smaller_on p q r (inr a) (inr b) = inr (omega (arith, a.0, b.0), omega (arith, a.1, b.1))

smaller_never : (p : Pair) → Smaller p p → ⊥
smaller_never p (inl a) = absurd (omega (arith, a))
smaller_never p (inr a) = absurd (omega (arith, a.1))

-- one of two pairs is smaller, or they are one
smaller_other : (p q : Pair) → Smaller p q ⊎ (Smaller q p ⊎ (p ≡ q))
smaller_other p q = elim (cases_lt p.0 q.0) [
  | inl less ↦ inl (inl less)
  | inr le ↦ elim (cases_lt q.0 p.0) [
    | inl more ↦ inr (inl (inl more))
    | inr ge ↦
        let same : p.0 ≡ q.0 = omega (arith, le, ge) in
        elim (cases_lt p.1 q.1) [
          | inl less ↦ inl (inr (same, less))
          | inr le' ↦ elim (cases_lt q.1 p.1) [
            | inl more ↦ inr (inl (inr (sym same, more)))
            | inr ge' ↦ let also : p.1 ≡ q.1 = omega (arith, le', ge') in inr (inr (λ i. (same i, also i)))
          ]
        ]
  ]
]

-- ---- by falling count

abbrev pub Before : (Pair → ℕ) → Pair → Pair → Type 0
Before count p q = (count q < count p) ⊎ ((count p ≡ count q) × Smaller p q)

pub before_true : (count : Pair → ℕ) (p q : Pair) → comes_before count p q ≡ true → Before count p q
before_true count p q e = elim (or_parts (ltb (count q) (count p)) (eqb (count p) (count q) && is_smaller p q) e) [
  | inl more ↦ inl (ltb-true (count q) (count p) more)
  | inr tie ↦ let h = and_parts (eqb (count p) (count q)) (is_smaller p q) tie in inr (eqb-true (count p) (count q) h.0, smaller_true p q h.1)
]

pub true_before : (count : Pair → ℕ) (p q : Pair) → Before count p q → comes_before count p q ≡ true
true_before count p q (inl more) = or_left (ltb (count q) (count p)) (eqb (count p) (count q) && is_smaller p q) (lt-ltb (count q) (count p) more)
true_before count p q (inr tie) = or_right (ltb (count q) (count p)) (eqb (count p) (count q) && is_smaller p q) (and_from (eqb (count p) (count q)) (is_smaller p q) (eq-eqb (count p) (count q) tie.0) (true_smaller p q tie.1))

before_on : (count : Pair → ℕ) (p q r : Pair) → Before count p q → Before count q r → Before count p r
before_on count p q r (inl a) (inl b) = inl (omega (arith, a, b))
before_on count p q r (inl a) (inr b) = inl (omega (arith, a, b.0))
before_on count p q r (inr a) (inl b) = inl (omega (arith, a.0, b))
before_on count p q r (inr a) (inr b) = inr (a.0 ∙ b.0, smaller_on p q r a.1 b.1)

before_never : (count : Pair → ℕ) (p : Pair) → Before count p p → ⊥
before_never count p (inl a) = absurd (omega (arith, a))
before_never count p (inr a) = smaller_never p a.1

before_other : (count : Pair → ℕ) (p q : Pair) → (Before count p q → ⊥) → (p ≡ q → ⊥) → Before count q p
before_other count p q not differ = elim (cases_lt (count p) (count q)) [
  | inl less ↦ inl less
  | inr le ↦ elim (cases_lt (count q) (count p)) [
    | inl more ↦ absurd (not (inl more))
    | inr ge ↦
        let same : count p ≡ count q = omega (arith, le, ge) in
        elim (smaller_other p q) [
          | inl less ↦ absurd (not (inr (same, less)))
          | inr rest ↦ elim rest [ inl more ↦ inr (sym same, more) | inr is ↦ absurd (differ is) ]
        ]
  ]
]

true_false : (b : Bool) → b ≡ true → b ≡ false → ⊥
true_false b e f = absurd cc

not_true : (b : Bool) → (b ≡ true → ⊥) → b ≡ false
not_true true h = absurd (h refl)
not_true false h = refl

pub before_order : (count : Pair → ℕ) → IsOrder (comes_before count)
before_order count = record {
  on = λ p q r a b. true_before count p r (before_on count p q r (before_true count p q a) (before_true count q r b));
  other = λ p q not differ. true_before count q p (before_other count p q (λ b. true_false (comes_before count p q) (true_before count p q b) not) differ);
  never = λ p. not_true (comes_before count p p) (λ e. before_never count p (before_true count p p e));
}

-- ---- the ranked pairs

abbrev comes : (Pair → ℕ) → Pair → Bool
comes count p = ltb 0 (count p)

pub among_ranked : (count : Pair → ℕ) (p : Pair) → Among p (ranked count) → (is_counted p ≡ true) × (0 < count p)
among_ranked count p is =
    let h = among_filter (comes count) all_pairs p (among_in_order (comes_before count) p (filter (comes count) all_pairs) is) in
    (among_pairs p h.0, ltb-true 0 (count p) h.1)

pub ranked_among : (count : Pair → ℕ) (p : Pair) → is_counted p ≡ true → 0 < count p → Among p (ranked count)
ranked_among count p e more = in_order_among (comes_before count) p (filter (comes count) all_pairs) (filter_among (comes count) all_pairs p (pairs_among p e) (lt-ltb 0 (count p) more))

pub ranked_ordered : (count : Pair → ℕ) → Ordered (comes_before count) (ranked count)
ranked_ordered count = ordered_in_order (comes_before count) (before_order count) (filter (comes count) all_pairs) (apart_filter (comes count) all_pairs pairs_apart)
