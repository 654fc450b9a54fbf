-- The numbers of the pairs, made from the last pair to the first.
use Rattle.std.proofs.Common.{◌≡◌, ◌≢◌, ℕ, zero, suc, ◌+◌, ◌*◌, ◌<◌, Bool, true, false, cond, ltb, List, [], ◌∷◌, length, get_or, drop, Some, None, sym, ap, ◌∙◌, inl, inr, arith}
use Rattle.std.specs.Prelude.{replicate, slice_set}
use Rattle.std.specs.List.{position_from}
use Rattle.std.proofs.lemmas.Bool.{lt-ltb, cases_Bool}
use Rattle.std.proofs.lemmas.List.{get_or-replicate, get_or-set_same, get_or-set_other, drop_all}
use Rattle.std.proofs.lemmas.Iterator.Adapters.{position_from-zero}
use Rattle.std.proofs.Math.Seq.{drop-cons}
use Rattle.bigram_db.specs.Pairs.{Pair, is_same, pairs_of, pair_at}
use Rattle.bigram_db.specs.Chosen.{is_counted}
use Rattle.bigram_db.specs.Counts.{index_of}
use Rattle.bigram_db.specs.Numbers.{number_told, AreNumbers}
use Rattle.bigram_db.proofs.PairPlaces.{index_below, index_same, same_true, same_itself, pairs_at}

-- Each cell tells the first number of its pair among the pairs from this number on.
abbrev pub NumbersFrom : List ℕ → ℕ → List ℕ → Type 0
NumbersFrom table n numbers = (p : Pair) → is_counted p ≡ true → number_told (get_or numbers (index_of p) 0) ≡ position_from (is_same p) n (drop n (pairs_of table))

length-pairs_of : (table : List ℕ) (n : ℕ) → length table ≡ 2 * n → length (pairs_of table) ≡ n
length-pairs_of [] n e = omega (arith, e)
length-pairs_of (a ∷ []) n e = absurd (omega (arith, e))
length-pairs_of (a ∷ b ∷ table) zero e = absurd (omega (arith, e))
length-pairs_of (a ∷ b ∷ table) (suc n) e = ap suc (length-pairs_of table n (omega (arith, e)))

-- No pair is seen.
pub numbered_none : (table : List ℕ) → length table ≡ 256 → NumbersFrom table 128 (replicate 9216 128)
numbered_none table size p e =
    ap number_told (get_or-replicate 9216 (index_of p) 128 0 (index_below p e))
    ∙ sym (ap (position_from (is_same p) 128) (drop_all 128 (pairs_of table) (omega (arith, length-pairs_of table 128 (omega (arith, size))))))

-- The pairs from a number on are the pair of this number and those behind it.
one_more : (table : List ℕ) (n : ℕ) (p : Pair) → length table ≡ 256 → n < 128
    → position_from (is_same p) n (drop n (pairs_of table)) ≡ cond (is_same p (pair_at table n)) (Some n) (position_from (is_same p) (n + 1) (drop (n + 1) (pairs_of table)))
one_more table n p size lt =
    let within : n < length (pairs_of table) = omega (arith, lt, length-pairs_of table 128 (omega (arith, size))) in
    let up : suc n ≡ n + 1 = omega arith in
    ap (position_from (is_same p) n) (drop-cons (pairs_of table) n (0, 0) within ∙ ap (λ (m : ℕ). get_or (pairs_of table) n (0, 0) ∷ drop m (pairs_of table)) up)
    ∙ ap (λ (q : Pair). cond (is_same p q) (Some n) (position_from (is_same p) (n + 1) (drop (n + 1) (pairs_of table)))) (pairs_at table n within)

cond_is : {X : Type 0} (b c : Bool) (x y : X) → b ≡ c → cond b x y ≡ cond c x y
cond_is b c x y e = ap (λ (d : Bool). cond d x y) e

true_false : true ≡ false → ⊥
true_false e = absurd cc

other_pair : (p q : Pair) → is_counted p ≡ true → is_counted q ≡ false → is_same p q ≡ true → ⊥
other_pair p q counted not same = true_false (sym counted ∙ ap is_counted (same_true p q same) ∙ not)

-- A pair that does not count changes no cell.
pub numbered_past : (table numbers : List ℕ) (n : ℕ) → length table ≡ 256 → n < 128 → is_counted (pair_at table n) ≡ false → NumbersFrom table (n + 1) numbers → NumbersFrom table n numbers
numbered_past table numbers n size lt out from p e =
    elim (cases_Bool (is_same p (pair_at table n))) [
      | inl same ↦ absurd (other_pair p (pair_at table n) e out same)
      | inr differs ↦ from p e ∙ sym (one_more table n p size lt ∙ cond_is (is_same p (pair_at table n)) false (Some n) _ differs)
    ]

-- A pair that counts is told by its cell.
pub numbered_more : (table numbers : List ℕ) (n : ℕ) → length table ≡ 256 → length numbers ≡ 9216 → n < 128 → is_counted (pair_at table n) ≡ true → NumbersFrom table (n + 1) numbers
    → NumbersFrom table n (slice_set numbers (index_of (pair_at table n)) n)
numbered_more table numbers n size cells lt counts from p e =
    let q : Pair = pair_at table n in
    let within : index_of q < length numbers = omega (arith, index_below q counts, cells) in
    elim (cases_Bool (is_same p q)) [
      | inl same ↦
          ap (λ (r : Pair). number_told (get_or (slice_set numbers (index_of q) n) (index_of r) 0)) (same_true p q same)
          ∙ ap number_told (get_or-set_same numbers (index_of q) n 0 within)
          ∙ cond_is (ltb n 128) true (Some n) None (lt-ltb n 128 lt)
          ∙ sym (one_more table n p size lt ∙ cond_is (is_same p q) true (Some n) _ same)
      | inr differs ↦
          let apart : index_of p ≢ index_of q = λ at_once. true_false (sym (same_itself q) ∙ ap (λ (r : Pair). is_same r q) (sym (index_same p q e counts at_once)) ∙ differs) in
          ap number_told (get_or-set_other numbers (index_of q) (index_of p) n 0 apart)
          ∙ from p e
          ∙ sym (one_more table n p size lt ∙ cond_is (is_same p q) false (Some n) _ differs)
    ]

-- All pairs are seen.
pub numbered_all : (table numbers : List ℕ) → NumbersFrom table 0 numbers → AreNumbers table numbers
numbered_all table numbers from p e = from p e ∙ sym (position_from-zero (is_same p) (pairs_of table))
