-- All pairs of two lists of bytes.
use Rattle.std.proofs.Common.{◌≡◌, ℕ, zero, suc, ◌+◌, ◌<◌, ◌≤◌, true, List, [], ◌∷◌, ◌++◌, map, refl, ap, subst, inl, inr, arith}
use Rattle.std.specs.List.{flat_map, range_with_len}
use Rattle.std.proofs.lemmas.Bool.{and_from, cases_lt}
use Rattle.bigram_db.specs.Pairs.{Pair, is_plain}
use Rattle.bigram_db.specs.Chosen.{is_counted, plain_bytes, all_pairs}
use Rattle.bigram_db.proofs.InOrder.{Among, Apart, among_left, among_right, among_either}
use Rattle.bigram_db.proofs.PairPlaces.{plain_bounds, plain_from, bounds}

range_bounds : (a n x : ℕ) → Among x (range_with_len a n) → (a ≤ x) × (x < a + n)
range_bounds a zero x is = absurd is
range_bounds a (suc n) x (inl is) = (omega (arith, is), omega (arith, is))
range_bounds a (suc n) x (inr is) = let b = range_bounds (a + 1) n x is in (omega (arith, b.0), omega (arith, b.1))

range_among : (a n x : ℕ) → a ≤ x → x < a + n → Among x (range_with_len a n)
range_among a zero x low high = absurd (omega (arith, low, high))
range_among a (suc n) x low high = elim (cases_lt a x) [
  | inl above ↦ inr (range_among (a + 1) n x (omega (arith, above)) (omega (arith, high)))
  | inr here ↦ let e : x ≡ a = omega (arith, low, here) in inl e
]

range_apart : (a n : ℕ) → Apart (range_with_len a n)
range_apart a zero = tt
range_apart a (suc n) = (λ is. absurd (omega (arith, (range_bounds (a + 1) n a is).0)), range_apart (a + 1) n)

abbrev row : ℕ → List ℕ → List Pair
row a bs = map (λ b. (a, b)) bs

row_among : (a : ℕ) (bs : List ℕ) (p : Pair) → Among p (row a bs) → (p.0 ≡ a) × Among p.1 bs
row_among a [] p is = absurd is
row_among a (b ∷ bs) p (inl is) = (ap (λ (q : Pair). q.0) is, inl (ap (λ (q : Pair). q.1) is))
row_among a (b ∷ bs) p (inr is) = let h = row_among a bs p is in (h.0, inr h.1)

among_row : (a : ℕ) (bs : List ℕ) (p : Pair) → p.0 ≡ a → Among p.1 bs → Among p (row a bs)
among_row a [] p e is = absurd is
among_row a (b ∷ bs) p e (inl is) = inl (λ i. (e i, is i))
among_row a (b ∷ bs) p e (inr is) = inr (among_row a bs p e is)

row_apart : (a : ℕ) (bs : List ℕ) → Apart bs → Apart (row a bs)
row_apart a [] apart = tt
row_apart a (b ∷ bs) apart = (λ is. apart.0 (row_among a bs (a, b) is).1, row_apart a bs apart.1)

append_apart : {X : Type 0} (xs ys : List X) → Apart xs → Apart ys → ((x : X) → Among x xs → Among x ys → ⊥) → Apart (xs ++ ys)
append_apart [] ys first second differ = second
append_apart (x ∷ xs) ys first second differ =
    (λ is. elim (among_either x xs ys is) [ inl here ↦ first.0 here | inr there ↦ differ x (inl refl) there ], append_apart xs ys first.1 second (λ z here there. differ z (inr here) there))

abbrev grid : List ℕ → List ℕ → List Pair
grid cs bs = flat_map (λ a. row a bs) cs

grid_among : (cs bs : List ℕ) (p : Pair) → Among p (grid cs bs) → Among p.0 cs × Among p.1 bs
grid_among [] bs p is = absurd is
grid_among (a ∷ cs) bs p is = elim (among_either p (row a bs) (grid cs bs) is) [
  | inl here ↦ let h = row_among a bs p here in (inl h.0, h.1)
  | inr there ↦ let h = grid_among cs bs p there in (inr h.0, h.1)
]

among_grid : (cs bs : List ℕ) (p : Pair) → Among p.0 cs → Among p.1 bs → Among p (grid cs bs)
among_grid [] bs p is also = absurd is
among_grid (a ∷ cs) bs p (inl is) also = among_left p (row a bs) (grid cs bs) (among_row a bs p is also)
among_grid (a ∷ cs) bs p (inr is) also = among_right p (row a bs) (grid cs bs) (among_grid cs bs p is also)

grid_apart : (cs bs : List ℕ) → Apart cs → Apart bs → Apart (grid cs bs)
grid_apart [] bs first second = tt
grid_apart (a ∷ cs) bs first second =
    append_apart (row a bs) (grid cs bs) (row_apart a bs second) (grid_apart cs bs first.1 second) (λ p here there. first.0 (subst (λ (n : ℕ). Among n cs) (row_among a bs p here).0 (grid_among cs bs p there).0))

-- ---- the pairs that can count

plain_among : (b : ℕ) → Among b plain_bytes → is_plain b ≡ true
plain_among b is = let h = range_bounds 32 96 b is in plain_from b h.0 (omega (arith, h.1))

among_plain : (b : ℕ) → is_plain b ≡ true → Among b plain_bytes
among_plain b e = let h = plain_bounds b e in range_among 32 96 b h.0 (omega (arith, h.1))

pub among_pairs : (p : Pair) → Among p all_pairs → is_counted p ≡ true
unfolding all_pairs
among_pairs p is = let h = grid_among plain_bytes plain_bytes p is in and_from (is_plain p.0) (is_plain p.1) (plain_among p.0 h.0) (plain_among p.1 h.1)

pub pairs_among : (p : Pair) → is_counted p ≡ true → Among p all_pairs
unfolding all_pairs
pairs_among p e =
    let b = bounds p e in
    among_grid plain_bytes plain_bytes p (among_plain p.0 (plain_from p.0 b.low b.high)) (among_plain p.1 (plain_from p.1 b.low' b.high'))

pub pairs_apart : Apart all_pairs
unfolding all_pairs
pairs_apart = grid_apart plain_bytes plain_bytes (range_apart 32 96) (range_apart 32 96)
