-- A sorted list without repeats.
use Rattle.std.proofs.Common.{◌≡◌, ℕ, suc, ◌+◌, ◌-◌, ◌<◌, ◌≤◌, Bool, true, false, cond, List, [], ◌∷◌, length, get_or, map, refl, sym, ◌∙◌, ap, arith, Ordering, Less, Equal, Greater, is_lt, is_eq}
use Rattle.std.specs.Prelude.{nat_lt}
use Rattle.std.proofs.lemmas.Bool.{ltb-true, ltb-false}
use Rattle.std.proofs.lemmas.Cmp.{eq_by_cmp_equiv}
use Rattle.std.proofs.lemmas.List.{length-map, get_or-map, get_or_default}
use Rattle.std.proofs.lemmas.List.Kept.{Contains-dedup, Contains-from_dedup, IsStrictlySortedBy-dedup}
use Rattle.std.proofs.lemmas.Map.Views.{list_any-from_Contains, Contains-from_any}
use Rattle.std.specs.Cmp.{IsTotalOrder, both_ways, Equal-is}
use Rattle.std.specs.FinMap.{IsAntisymmetric}
use Rattle.std.specs.FinMap.Entries.{below_all}
use Rattle.std.specs.List.{AllByRecursion, dedup_from, dedup, list_any, range_with_len}
use Rattle.std.specs.List.Sorted.{IsSorted, IsSortedByKey, IsStrictlySortedBy}
use Rattle.std.specs.Ordering.{eq_by_cmp, ordering_reverse}
use Rattle.db_convert.specs.Blocks.{entry_cmp, sorted_unique}
use Rattle.db_convert.specs.Orders.{Rises, entry_at}
use Rattle.db_convert.proofs.Directories.{marked, Sorted, among, sorted_is}

-- ---- what elements stand for

module _ {A B : Type 0} (f : A → B) (same : B → B → Bool) where
  map-dedup_from : (kept : A) (xs : List A) → map f (dedup_from (λ x y. same (f x) (f y)) kept xs) ≡ dedup_from same (f kept) (map f xs)
  map-dedup_from kept [] = refl
  map-dedup_from kept (x ∷ xs) = by (same (f x) (f kept)) (map-dedup_from kept xs) (map-dedup_from x xs)
    where
      by : (b : Bool) → map f (dedup_from (λ x y. same (f x) (f y)) kept xs) ≡ dedup_from same (f kept) (map f xs) → map f (dedup_from (λ x y. same (f x) (f y)) x xs) ≡ dedup_from same (f x) (map f xs)
          → map f (cond b (dedup_from (λ x y. same (f x) (f y)) kept xs) (kept ∷ dedup_from (λ x y. same (f x) (f y)) x xs)) ≡ cond b (dedup_from same (f kept) (map f xs)) (f kept ∷ dedup_from same (f x) (map f xs))
      by true first others = first
      by false first others = ap (λ (rest : List B). f kept ∷ rest) others

  pub map-dedup : (xs : List A) → map f (dedup (λ x y. same (f x) (f y)) xs) ≡ dedup same (map f xs)
  map-dedup [] = refl
  map-dedup (x ∷ xs) = map-dedup_from x xs

-- what stands in order by a key, its keys stand in order
pub sorted_keys : {K : Type 0} (R : K → K → Ordering) (f : ℕ → K) (xs : List ℕ) → IsSortedByKey f R xs → IsSorted R (map f xs)
sorted_keys R f xs up k d low high =
    let len = length-map xs f in
    let next : get_or (map f xs) (k + 1) d ≡ f (get_or xs (k + 1) 0) = get_or-map f xs (k + 1) 0 d (omega (arith, high, len)) in
    let here : get_or (map f xs) k d ≡ f (get_or xs k 0) = get_or-map f xs k 0 d (omega (arith, high, len)) in
    (λ i. is_lt (R (next i) (here i))) ∙ up k 0 low (omega (arith, high, len))

-- ---- values in order

module _ {K : Type 0} (R : K → K → Ordering) (total : IsTotalOrder R) (apart : IsAntisymmetric R) where
  below_by : (x : K) (ks : List K) → AllByRecursion (λ y. R x y ≡ Less) ks → below_all R x (marked ks) ≡ true
  below_by x [] h = refl
  below_by x (k ∷ ks) h = rw (h.0, below_by x ks h.1) refl

  strictly : (ks : List K) → IsStrictlySortedBy R ks → Sorted R ks
  unfolding IsStrictlySortedBy
  strictly [] h = refl
  strictly (k ∷ ks) h = rw (below_by k ks h.0, strictly ks h.1) refl

  same_values : (xs : List K) (q : K) → among R q (dedup (eq_by_cmp R) xs) ≡ among R q xs
  same_values xs q =
      let equal : (x y : K) → eq_by_cmp R x y ≡ true → x ≡ y = λ x y e. apart x y ((Equal-is (R x y)).0 e) in
      let alike = eq_by_cmp_equiv total in
      both_ways _ _
      (λ e. list_any-from_Contains alike q xs (Contains-from_dedup (eq_by_cmp R) xs q (Contains-from_any equal q (dedup (eq_by_cmp R) xs) e)))
      (λ e. list_any-from_Contains alike q (dedup (eq_by_cmp R) xs) (Contains-dedup alike equal xs q (Contains-from_any equal q xs e)))

  -- values that were sorted, without repeats, are that order of them
  pub dedup_is : (xs ys : List K) → IsSorted R xs → ((holds : K → Bool) → list_any holds xs ≡ list_any holds ys) → dedup (eq_by_cmp R) xs ≡ sorted_unique R ys
  dedup_is xs ys up same =
      sym (sorted_is R total apart (dedup (eq_by_cmp R) xs) ys (strictly _ (IsStrictlySortedBy-dedup total (λ x y. refl) xs up)) (λ q.
      same_values xs q ∙ same (eq_by_cmp R q)))

-- ---- all places of a list

pub each_place : {X : Type 0} {Y : Type 0} (f : X → Y) (d : X) (xs : List X) → map (λ k. f (get_or xs k d)) (range_with_len 0 (length xs)) ≡ map f xs
each_place {X} f d xs = from 0 xs (λ k. ap (λ (n : ℕ). get_or xs n d) {x = k} {y = 0 + k} (omega arith))
  where
    from : (start : ℕ) (ys : List X) → ((k : ℕ) → get_or ys k d ≡ get_or xs (start + k) d) → map (λ k. f (get_or xs k d)) (range_with_len start (length ys)) ≡ map f ys
    from start [] same = refl
    from start (y ∷ ys) same =
        let here : get_or xs start d ≡ y = sym (same 0 ∙ ap (λ (n : ℕ). get_or xs n d) {x = start + 0} {y = start} (omega arith)) in
        λ i. f (here i) ∷ from (start + 1) ys (λ k.
        ap (λ (n : ℕ). get_or (y ∷ ys) n d) {x = suc k} {y = k + 1} (omega arith) ∙ same (k + 1) ∙ ap (λ (n : ℕ). get_or xs n d) {x = start + (k + 1)} {y = start + 1 + k} (omega arith)) i

-- ---- values that rise

-- where each is below the next, nothing is dropped
pub none_dropped : {K : Type 0} (R : K → K → Ordering) → IsTotalOrder R → (f : ℕ → K) (kept : ℕ) (xs : List ℕ)
    → ((k : ℕ) → k + 1 < length (kept ∷ xs) → is_lt (R (f (get_or (kept ∷ xs) k 0)) (f (get_or (kept ∷ xs) (k + 1) 0))) ≡ true)
    → dedup_from (λ next last. eq_by_cmp R (f next) (f last)) kept xs ≡ kept ∷ xs
none_dropped R total f kept [] up = refl
none_dropped R total f kept (x ∷ xs) up =
    let apart : eq_by_cmp R (f x) (f kept) ≡ false = ap is_eq (total.antisymm (f x) (f kept)) ∙ turned (R (f kept) (f x)) (up 0 (omega arith)) in
    ap (λ (b : Bool). cond b (dedup_from (λ next last. eq_by_cmp R (f next) (f last)) kept xs) (kept ∷ dedup_from (λ next last. eq_by_cmp R (f next) (f last)) x xs)) apart
    ∙ ap (λ (l : List ℕ). kept ∷ l) (none_dropped R total f x xs (λ k lt. ap (λ (n : ℕ). is_lt (R (f (get_or (x ∷ xs) k 0)) (f (get_or (kept ∷ x ∷ xs) n 0)))) {x = suc (k + 1)} {y = suc k + 1} (omega arith) ∙ up (suc k) (omega (arith, lt))))
  where
    turned : (o : Ordering) → is_lt o ≡ true → is_eq (ordering_reverse o) ≡ false
    turned Less e = refl
    turned Equal e = absurd cc
    turned Greater e = refl

-- and they are sorted
pub rises_sorted : {K : Type 0} (R : K → K → Ordering) → IsTotalOrder R → (f : ℕ → K) (xs : List ℕ)
    → ((k : ℕ) → k + 1 < length xs → is_lt (R (f (get_or xs k 0)) (f (get_or xs (k + 1) 0))) ≡ true) → IsSortedByKey f R xs
rises_sorted R total f xs up k d low high =
    let next : get_or xs (k + 1) d ≡ get_or xs (k + 1) 0 = get_or_default xs (k + 1) d 0 (omega (arith, high)) in
    let here : get_or xs k d ≡ get_or xs k 0 = get_or_default xs k d 0 (omega (arith, high)) in
    (λ i. is_lt (R (f (next i)) (f (here i)))) ∙ ap is_lt (total.antisymm (f (get_or xs (k + 1) 0)) (f (get_or xs k 0))) ∙ turned (R (f (get_or xs k 0)) (f (get_or xs (k + 1) 0))) (up k (omega (arith, high)))
  where
    turned : (o : Ordering) → is_lt o ≡ true → is_lt (ordering_reverse o) ≡ false
    turned Less e = refl
    turned Equal e = absurd cc
    turned Greater e = absurd cc

-- one more is below the next
pub rises_more : (paths : List (List ℕ)) (places : List ℕ) (at : ℕ) → 1 ≤ at → Rises paths places at → is_lt (entry_cmp (entry_at paths (get_or places (at - 1) 0)) (entry_at paths (get_or places at 0))) ≡ true → Rises paths places (at + 1)
rises_more paths places at some up last k lt = by (nat_lt (k + 1) at) refl
  where
    by : (b : Bool) → nat_lt (k + 1) at ≡ b → is_lt (entry_cmp (entry_at paths (get_or places k 0)) (entry_at paths (get_or places (k + 1) 0))) ≡ true
    by true e = up k (ltb-true (k + 1) at e)
    by false e =
        let end : at ≤ k + 1 = ltb-false (k + 1) at e in
        ap (λ (n : ℕ). is_lt (entry_cmp (entry_at paths (get_or places k 0)) (entry_at paths (get_or places n 0)))) {x = k + 1} {y = at} (omega (arith, end, lt))
        ∙ ap (λ (n : ℕ). is_lt (entry_cmp (entry_at paths (get_or places n 0)) (entry_at paths (get_or places at 0)))) {x = k} {y = at - 1} (omega (arith, end, lt))
        ∙ last
