-- What two texts have in common from the front on.
use Rattle.std.proofs.Common.{◌≡◌, ℕ, zero, suc, ◌+◌, ◌<◌, ◌≤◌, Bool, true, false, cond, eqb, List, [], ◌∷◌, ◌++◌, length, get_or, take, drop, refl, sym, ap, ◌∙◌, ◌-◌, length-drop, arith}
use Rattle.std.proofs.lemmas.Bool.{eq-eqb, eqb-true}
use Rattle.std.proofs.lemmas.List.{take-append-drop, take_all}
use Rattle.std.proofs.lemmas.List.Sums.{common_prefix_len-le}
use Rattle.std.proofs.Math.Seq.{take-add}
use Rattle.byte_feed.specs.Prefix.{common_prefix}

-- it is not longer than either
pub common_fits : (a b : List ℕ) → (common_prefix a b ≤ length a) × (common_prefix a b ≤ length b)
common_fits a b = common_prefix_len-le eqb a b

same_begin : (n x y : ℕ) (a b : List ℕ) (same : Bool) → eqb x y ≡ same → suc n ≤ cond same (1 + common_prefix a b) 0 → (n ≤ common_prefix a b → take n a ≡ take n b) → x ∷ take n a ≡ y ∷ take n b
same_begin n x y a b true is le go = λ i. eqb-true x y is i ∷ go (omega (arith, le)) i
same_begin n x y a b false is le go = absurd (omega (arith, le))

-- both begin with the same bytes
pub common_take : (n : ℕ) (a b : List ℕ) → n ≤ common_prefix a b → take n a ≡ take n b
common_take zero a b le = refl
common_take (suc n) [] b le = absurd (omega (arith, le))
common_take (suc n) (x ∷ a) [] le = absurd (omega (arith, le))
common_take (suc n) (x ∷ a) (y ∷ b) le = same_begin n x y a b (eqb x y) refl le (common_take n a b)

pub with_rest : (n : ℕ) (a b : List ℕ) → n ≤ common_prefix a b → take n a ++ drop n b ≡ b
with_rest n a b le = ap (λ (t : List ℕ). t ++ drop n b) (common_take n a b le) ∙ take-append-drop n b

-- so many bytes that were kept are in common
pub kept_common : (n : ℕ) (a rest : List ℕ) → n ≤ length a → n ≤ common_prefix a (take n a ++ rest)
kept_common zero a rest le = omega arith
kept_common (suc n) [] rest le = absurd (omega (arith, le))
kept_common (suc n) (x ∷ a) rest le = rw (eq-eqb x x refl) (omega (arith, kept_common n a rest (omega (arith, le))))

-- so many bytes are in common, and no more
pub common_is : (n : ℕ) (a b : List ℕ) → n ≤ length a → n ≤ length b → take n a ≡ take n b → (n < length a → n < length b → eqb (get_or a n 0) (get_or b n 0) ≡ false) → common_prefix a b ≡ n
common_is zero [] b la lb same apart = refl
common_is zero (x ∷ a) [] la lb same apart = refl
common_is zero (x ∷ a) (y ∷ b) la lb same apart = rw (apart (omega arith) (omega arith)) refl
common_is (suc n) [] b la lb same apart = absurd (omega (arith, la))
common_is (suc n) (x ∷ a) [] la lb same apart = absurd (omega (arith, lb))
common_is (suc n) (x ∷ a) (y ∷ b) la lb same apart =
    let first : x ≡ y = ap (λ (l : List ℕ). get_or l 0 0) same in
    let rest : take n a ≡ take n b = ap (drop 1) same in
    let more = common_is n a b (omega (arith, la)) (omega (arith, lb)) rest (λ h k. apart (omega (arith, h)) (omega (arith, k))) in
    rw (eq-eqb x y first, more) (omega arith)

-- equal bytes behind equal ones
pub take_more : (n k : ℕ) (a b : List ℕ) → take n a ≡ take n b → take k (drop n a) ≡ take k (drop n b) → take (n + k) a ≡ take (n + k) b
take_more n k a b first second = take-add n k a ∙ (λ i. first i ++ second i) ∙ sym (take-add n k b)

-- what is left of a text
pub left_of : (n : ℕ) (text : List ℕ) → take (length text - n) (drop n text) ≡ drop n text
left_of n text = take_all (length text - n) (drop n text) (omega (arith, length-drop n text))
