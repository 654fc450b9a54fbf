-- Where the numbers of the pairs stand.
use Rattle.std.proofs.Common.{◌≡◌, ◌≢◌, ℕ, zero, suc, ◌+◌, ◌*◌, ◌/◌, ◌%◌, ◌<◌, ◌≤◌, Bool, true, false, cond, eqb, ltb, leb, List, [], ◌∷◌, length, get_or, refl, sym, ap, ◌∙◌, inl, inr, arith}
use Rattle.std.specs.Prelude.{slice_set}
use Rattle.std.proofs.lemmas.Bool.{and_parts, and_from, leb-true, ltb-true, eqb-true, eq-eqb, le-leb, lt-ltb, cases_Bool}
use Rattle.std.proofs.lemmas.List.{get_or-set_same, get_or-set_other}
use Rattle.std.proofs.lemmas.Nat.{mod_below, div_below, div-add-mod'}
use Rattle.bigram_db.specs.Pairs.{Pair, is_same, pairs_of, pair_at, is_plain}
use Rattle.bigram_db.specs.Chosen.{is_counted, times}
use Rattle.bigram_db.specs.Counts.{index_of, times_of}

true_false : true ≡ false → ⊥
true_false e = absurd cc

pub plain_bounds : (b : ℕ) → is_plain b ≡ true → (32 ≤ b) × (b < 128)
plain_bounds b e = let p = and_parts (leb 32 b) (ltb b 128) e in (leb-true 32 b p.0, ltb-true b 128 p.1)

pub plain_from : (b : ℕ) → 32 ≤ b → b < 128 → is_plain b ≡ true
plain_from b low high = and_from (leb 32 b) (ltb b 128) (le-leb 32 b low) (lt-ltb b 128 high)

pub record Bounds (p : Pair) : Type 0 where
  pub low : 32 ≤ p.0
  pub high : p.0 < 128
  pub low' : 32 ≤ p.1
  pub high' : p.1 < 128

pub bounds : (p : Pair) → is_counted p ≡ true → Bounds p
bounds p e =
    let both = and_parts (is_plain p.0) (is_plain p.1) e in
    let a = plain_bounds p.0 both.0 in
    let b = plain_bounds p.1 both.1 in
    record { low = a.0; high = a.1; low' = b.0; high' = b.1 }

pub index_below : (p : Pair) → is_counted p ≡ true → index_of p < 9216
index_below p e = let b = bounds p e in omega arith

pair_is : (p q : Pair) → p.0 ≡ q.0 → p.1 ≡ q.1 → p ≡ q
pair_is p q a b = λ i. (a i, b i)

-- a place has one pair
pub index_same : (p q : Pair) → is_counted p ≡ true → is_counted q ≡ true → index_of p ≡ index_of q → p ≡ q
index_same p q e f same =
    let b = bounds p e in
    let c = bounds q f in
    pair_is p q (omega arith) (omega arith)

pub same_true : (p q : Pair) → is_same p q ≡ true → p ≡ q
same_true p q e = let both = and_parts (eqb p.0 q.0) (eqb p.1 q.1) e in pair_is p q (eqb-true p.0 q.0 both.0) (eqb-true p.1 q.1 both.1)

pub same_itself : (p : Pair) → is_same p p ≡ true
same_itself p = and_from (eqb p.0 p.0) (eqb p.1 p.1) (eq-eqb p.0 p.0 refl) (eq-eqb p.1 p.1 refl)

-- the pair of a number is the one at its place
pub pairs_at : (table : List ℕ) (n : ℕ) → n < length (pairs_of table) → get_or (pairs_of table) n (0, 0) ≡ pair_at table n
pairs_at [] n lt = absurd (omega (arith, lt))
pairs_at (a ∷ []) n lt = absurd (omega (arith, lt))
pairs_at (a ∷ b ∷ rest) zero lt = refl
pairs_at (a ∷ b ∷ rest) (suc n) lt =
    let even : 2 * suc n ≡ suc (suc (2 * n)) = omega arith in
    let odd : 2 * suc n + 1 ≡ suc (suc (2 * n + 1)) = omega arith in
    pairs_at rest n (omega (arith, lt)) ∙ sym (ap (λ (k : ℕ). (get_or (a ∷ b ∷ rest) k 0, get_or rest (2 * n + 1) 0)) even) ∙ sym (ap (λ (k : ℕ). (get_or (a ∷ b ∷ rest) (2 * suc n) 0, get_or (a ∷ b ∷ rest) k 0)) odd)

-- ---- the pair at a place

abbrev pub pair_of : ℕ → Pair
pair_of i = (32 + i / 96, 32 + i % 96)

pub pair_of_counts : (i : ℕ) → i < 9216 → is_counted (pair_of i) ≡ true
pair_of_counts i lt =
    let row : i / 96 < 96 = div_below i 96 96 (omega arith) (omega arith) in
    let column : i % 96 < 96 = mod_below i 96 (omega arith) in
    and_from (is_plain (32 + i / 96)) (is_plain (32 + i % 96)) (plain_from (32 + i / 96) (omega arith) (omega arith)) (plain_from (32 + i % 96) (omega arith) (omega arith))

pub index-pair_of : (i : ℕ) → index_of (pair_of i) ≡ i
index-pair_of i = omega (arith, div-add-mod' i 96)

pub pair_of-index : (p : Pair) → is_counted p ≡ true → pair_of (index_of p) ≡ p
pair_of-index p e = index_same (pair_of (index_of p)) p (pair_of_counts (index_of p) (index_below p e)) e (index-pair_of (index_of p))

-- ---- the count of a pair

pub count_there : (numbers : List ℕ) (p : Pair) → is_counted p ≡ true → times_of numbers p ≡ get_or numbers (index_of p) 0
count_there numbers p e = ap (λ (b : Bool). cond b (get_or numbers (index_of p) 0) 0) e

pub count_not : (numbers : List ℕ) (p : Pair) → is_counted p ≡ false → times_of numbers p ≡ 0
count_not numbers p e = ap (λ (b : Bool). cond b (get_or numbers (index_of p) 0) 0) e

often_yes : (p q : Pair) → is_same p q ≡ true → times (q ∷ []) p ≡ 1
often_yes p q e = rw e refl

often_no : (p q : Pair) → is_same p q ≡ false → times (q ∷ []) p ≡ 0
often_no p q e = rw e refl

-- one more of a pair
pub count_set : (numbers : List ℕ) (q : Pair) → length numbers ≡ 9216 → is_counted q ≡ true → (p : Pair) → times_of (slice_set numbers (index_of q) (get_or numbers (index_of q) 0 + 1)) p ≡ times_of numbers p + times (q ∷ []) p
count_set numbers q size e p =
    let more : List ℕ = slice_set numbers (index_of q) (get_or numbers (index_of q) 0 + 1) in
    let within : index_of q < length numbers = omega (arith, index_below q e, size) in
    elim (cases_Bool (is_same p q)) [
      | inl same ↦
          let is : p ≡ q = same_true p q same in
          let here : times_of more q ≡ times_of numbers q + 1 = count_there more q e ∙ get_or-set_same numbers (index_of q) (get_or numbers (index_of q) 0 + 1) 0 within ∙ ap (λ (n : ℕ). n + 1) (sym (count_there numbers q e)) in
          omega (arith, ap (times_of more) is, ap (times_of numbers) is, here, often_yes p q same)
      | inr differs ↦
          elim (cases_Bool (is_counted p)) [
            | inl there ↦
                let apart : index_of p ≢ index_of q = λ at_once. true_false (sym (same_itself q) ∙ ap (λ (r : Pair). is_same r q) (sym (index_same p q there e at_once)) ∙ differs) in
                omega (arith, count_there more p there, count_there numbers p there, get_or-set_other numbers (index_of q) (index_of p) (get_or numbers (index_of q) 0 + 1) 0 apart, often_no p q differs)
            | inr out ↦ omega (arith, count_not more p out, count_not numbers p out, often_no p q differs)
          ]
    ]

count_zero_by : (numbers : List ℕ) (p : Pair) (b : Bool) → get_or numbers (index_of p) 0 ≡ 0 → cond b (get_or numbers (index_of p) 0) 0 ≡ 0
count_zero_by numbers p true e = e
count_zero_by numbers p false e = refl

-- nothing was counted
pub count_zero : (numbers : List ℕ) (p : Pair) → get_or numbers (index_of p) 0 ≡ 0 → times_of numbers p ≡ 0
count_zero numbers p e = count_zero_by numbers p (is_counted p) e
