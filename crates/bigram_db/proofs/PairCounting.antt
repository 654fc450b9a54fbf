-- Counting the pairs of a text.
use Rattle.std.proofs.Common.{◌≡◌, ℕ, ◌+◌, ◌-◌, ◌*◌, ◌≤◌, Bool, true, false, cond, List, [], ◌∷◌, ◌++◌, length, get_or, take, drop, refl, sym, ap, arith}
use Rattle.std.specs.List.{filter}
use Rattle.std.proofs.lemmas.List.{take_all}
use Rattle.std.proofs.lemmas.List.Sums.{count_by-le-length, length-filter, sum_by-append}
use Rattle.bigram_db.specs.Pairs.{Pair, pairs_of, is_same}
use Rattle.bigram_db.specs.Chosen.{is_counted, counted_in, times}

pub two_first : (xs : List ℕ) → 2 ≤ length xs → xs ≡ get_or xs 0 0 ∷ get_or xs 1 0 ∷ take (length xs - 2) (drop 2 xs)
two_first [] le = absurd (omega (arith, le))
two_first (a ∷ []) le = absurd (omega (arith, le))
two_first (a ∷ b ∷ xs) le = ap (λ (ys : List ℕ). a ∷ b ∷ ys) (sym (take_all (length (a ∷ b ∷ xs) - 2) xs (omega arith)))

none_of_few : (xs : List ℕ) → length xs ≤ 1 → pairs_of xs ≡ []
none_of_few [] le = refl
none_of_few (a ∷ []) le = refl
none_of_few (a ∷ b ∷ xs) le = absurd (omega (arith, le))

pub counted_none : (xs : List ℕ) (p : Pair) → length xs ≤ 1 → times (counted_in xs) p ≡ 0
counted_none xs p le = ap (λ (ps : List Pair). times (filter is_counted ps) p) (none_of_few xs le)

often_by : (q p : Pair) (rest : List Pair) (b : Bool) → times (cond b (q ∷ rest) rest) p ≡ times (cond b (q ∷ []) []) p + times rest p
often_by q p rest true = sum_by-append (λ r. cond (is_same p r) 1 0) (q ∷ []) rest
often_by q p rest false = omega arith

-- one pair, and the rest
pub counted_more : (a b : ℕ) (rest : List ℕ) (p : Pair) → times (counted_in (a ∷ b ∷ rest)) p ≡ times (filter is_counted ((a, b) ∷ [])) p + times (counted_in rest) p
counted_more a b rest p = often_by (a, b) p (counted_in rest) (is_counted (a, b))

pub times-append : (xs ys : List Pair) (p : Pair) → times (xs ++ ys) p ≡ times xs p + times ys p
times-append xs ys p = sum_by-append (λ q. cond (is_same p q) 1 0) xs ys

half : (text : List ℕ) → 2 * length (pairs_of text) ≤ length text
half [] = omega arith
half (a ∷ []) = omega arith
half (a ∷ b ∷ text) = omega (arith, half text)

kept_few : (p : Pair → Bool) (xs : List Pair) → length (filter p xs) ≤ length xs
kept_few p xs = omega (arith, length-filter p xs, count_by-le-length p xs)

-- a text has half as many pairs as bytes
pub often_few : (text : List ℕ) (p : Pair) → 2 * times (counted_in text) p ≤ length text
often_few text p = omega (arith, count_by-le-length (is_same p) (counted_in text), kept_few is_counted (pairs_of text), half text)
