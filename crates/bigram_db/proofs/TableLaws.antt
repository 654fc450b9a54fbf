-- What a table that was chosen is.
use Rattle.std.proofs.Common.{◌≡◌, ℕ, zero, suc, ◌+◌, ◌*◌, ◌<◌, ◌≤◌, ◌↔◌, Bool, true, get_or, List, [], ◌∷◌, ◌++◌, length, drop, refl, sym, ap, subst, ◌∙◌, inl, inr, length-drop, arith}
use Rattle.std.specs.Prelude.{AllPairs, Contains, replicate}
use Rattle.std.specs.List.{flat_map}
use Rattle.std.proofs.lemmas.Grind.{flat_map-append}
use Rattle.bigram_db.specs.Pairs.{Pair, is_table}
use Rattle.byte_feed.specs.Prefix.{common_prefix}
use Rattle.bigram_db.specs.Chosen.{remainders, path_before, is_counted, counted_in, counted_behind, counted, times, comes_before, ranked, padded, chosen, table_for}
use Rattle.bigram_db.proofs.InOrder.{Among, Each, Ordered, among_each, each_among}
use Rattle.bigram_db.proofs.PairPlaces.{bounds}
use Rattle.bigram_db.proofs.PairCounting.{times-append, often_few}
use Rattle.bigram_db.proofs.Padded.{bytes_of, padded_table}
use Rattle.bigram_db.proofs.Ranked.{among_ranked, ranked_among, ranked_ordered}

among_at : {X : Type 0} (xs : List X) (k : ℕ) (d : X) → k < length xs → Among (get_or xs k d) xs
among_at [] k d lt = absurd (omega (arith, lt))
among_at (x ∷ xs) zero d lt = inl refl
among_at (x ∷ xs) (suc k) d lt = inr (among_at xs k d (omega (arith, lt)))

contains_among : {X : Type 0} (xs : List X) (x : X) → Contains xs x → Among x xs
contains_among xs x c = subst (λ y. Among y xs) c.2 (among_at xs c.0 x c.1)

among_contains : {X : Type 0} (xs : List X) (x : X) → Among x xs → Contains xs x
among_contains [] x is = absurd is
among_contains (y ∷ ys) x (inl is) = (0, omega arith, sym is)
among_contains (y ∷ ys) x (inr is) = let c = among_contains ys x is in (suc c.0, omega (arith, c.1), c.2)

pairs_ordered : {X : Type 0} (first : X → X → Bool) (xs : List X) → Ordered first xs → (i j : ℕ) (d : X) → i < j → j < length xs → first (get_or xs i d) (get_or xs j d) ≡ true
pairs_ordered first [] o i j d lt within = absurd (omega (arith, within))
pairs_ordered first (x ∷ xs) o i zero d lt within = absurd (omega (arith, lt))
pairs_ordered first (x ∷ xs) o zero (suc j) d lt within = each_among (λ y. first x y ≡ true) xs (get_or xs j d) o.0 (among_at xs j d (omega (arith, within)))
pairs_ordered first (x ∷ xs) o (suc i) (suc j) d lt within = pairs_ordered first xs o.1 i j d (omega (arith, lt)) (omega (arith, within))

pub ranked_each : (count : Pair → ℕ) (p : Pair) → Contains (ranked count) p ↔ ((is_counted p ≡ true) × (0 < count p))
ranked_each count p = (λ c. among_ranked count p (contains_among (ranked count) p c), λ h. among_contains (ranked count) p (ranked_among count p h.0 h.1))

pub ranked_pairs : (count : Pair → ℕ) → AllPairs (λ p q. comes_before count p q ≡ true) (ranked count)
ranked_pairs count = pairs_ordered (comes_before count) (ranked count) (ranked_ordered count)

pub chosen_table : (count : Pair → ℕ) → is_table (chosen count) ≡ true
chosen_table count = padded_table (ranked count) (among_each (λ p. is_counted p ≡ true) (ranked count) (λ p is. (among_ranked count p is).0))

zero_first : (pairs : List Pair) → Each (λ p. is_counted p ≡ true) pairs → get_or (padded (bytes_of pairs)) 0 0 ≡ 0 → padded (bytes_of pairs) ≡ replicate 256 0
unfolding padded
zero_first [] all e = refl
zero_first (p ∷ pairs) all e = let b = bounds p all.0 in absurd (omega (arith, e))

pub chosen_unused : (count : Pair → ℕ) → get_or (chosen count) 0 0 ≡ 0 → chosen count ≡ replicate 256 0
chosen_unused count e = zero_first (ranked count) (among_each (λ p. is_counted p ≡ true) (ranked count) (λ p is. (among_ranked count p is).0)) e

-- ---- one path more

remainders_more : (before : List ℕ) (paths : List (List ℕ)) (path : List ℕ) → remainders before (paths ++ path ∷ []) ≡ remainders before paths ++ drop (common_prefix (path_before before paths) path) path ∷ []
remainders_more before [] path = refl
remainders_more before (p ∷ paths) path = ap (λ (l : List (List ℕ)). drop (common_prefix before p) p ∷ l) (remainders_more p paths path)

none_behind : (xs : List Pair) (p : Pair) → times (xs ++ []) p ≡ times xs p
none_behind xs p = omega (arith, times-append xs [] p)

pub counted_one_more : (paths : List (List ℕ)) (path : List ℕ) (p : Pair) → times (counted (paths ++ path ∷ [])) p ≡ times (counted paths) p + times (counted_behind (path_before [] paths) path) p
counted_one_more paths path p =
    ap (λ (l : List (List ℕ)). times (flat_map counted_in l) p) (remainders_more [] paths path)
    ∙ ap (λ (l : List Pair). times l p) (flat_map-append counted_in (remainders [] paths) (drop (common_prefix (path_before [] paths) path) path ∷ []))
    ∙ times-append (counted paths) (counted_behind (path_before [] paths) path ++ []) p
    ∙ ap (λ (n : ℕ). times (counted paths) p + n) (none_behind (counted_behind (path_before [] paths) path) p)

pub before_more : (before : List ℕ) (paths : List (List ℕ)) (path : List ℕ) → path_before before (paths ++ path ∷ []) ≡ path
before_more before [] path = refl
before_more before (p ∷ paths) path = before_more p paths path

pub counted_few : (before path : List ℕ) (p : Pair) → 2 * times (counted_behind before path) p ≤ length path
counted_few before path p = omega (arith, often_few (drop (common_prefix before path) path) p, length-drop (common_prefix before path) path)

-- the table by counts that are those of a list of paths
pub chosen_by : (count : Pair → ℕ) (paths : List (List ℕ)) → ((p : Pair) → count p ≡ times (counted paths) p) → chosen count ≡ table_for paths
chosen_by count paths same = ap chosen (λ i p. same p i)
