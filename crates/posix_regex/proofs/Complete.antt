-- What an expression spans its items lead to.
use Rattle.std.proofs.Common.{◌≡◌, ◌⊎◌, ℕ, zero, suc, ◌+◌, ◌-◌, ◌<◌, ◌≤◌, List, [], ◌∷◌, ◌++◌, length, slice_get, Some, None, refl, sym, ap, ◌∙◌, subst, inl, inr, ⊎_elim, arith, length-append}
use Rattle.posix_regex.specs.Expression.{Expression, OneOf, Start, End, Empty, Then, Or, Repeat, Times, Spans, IsAllowed}
use Rattle.posix_regex.specs.Program.{Item, Takes, AtStart, AtEnd, Fork, Back, Skip, items_of, copies, optional, again, at_least, between, either}
use Rattle.posix_regex.specs.Moves.{Leads}
use Rattle.posix_regex.proofs.Relations.{Next, Maybe, Some_times, Times-split, Times-few}
use Rattle.posix_regex.proofs.Sound.{get_first, get_second, lead_at}

-- a predicate is kept by each move of items that stand at a place of a row
abbrev pub Kept : List ℕ → List Item → (ℕ → ℕ → Type 0) → ℕ → Type 0
Kept text items P d = (s i u j : ℕ) → s < length items → P (d + s) i → Leads text (slice_get items s) (d + s) i u j → P u j

abbrev pub Complete : List ℕ → List Item → (ℕ → ℕ → Type 0) → Type 1
Complete text items R = (P : ℕ → ℕ → Type 0) (d : ℕ) → Kept text items P d → (i j : ℕ) → P d i → R i j → P (d + length items) j

module _ (text : List ℕ) where
  module _ (a b : List Item) (P : ℕ → ℕ → Type 0) (d : ℕ) (kept : Kept text (a ++ b) P d) where
    pub kept_first : Kept text a P d
    kept_first s i u j h p lead = kept s i u j (omega (arith, length-append a b)) p (lead_at text (slice_get a s) (slice_get (a ++ b) s) (d + s) (d + s) i u j (sym (get_first a b s h)) refl lead)

    pub kept_second : Kept text b P (d + length a)
    kept_second s i u j h p lead =
        kept (length a + s) i u j (omega (arith, length-append a b))
        (subst (λ q. P q i) (let e : (d + length a) + s ≡ d + (length a + s) = omega arith in e) p)
        (lead_at text (slice_get b s) (slice_get (a ++ b) (length a + s)) ((d + length a) + s) (d + (length a + s)) i u j (sym (get_second a b s)) (omega arith) lead)

  pub complete_more : (items : List Item) (R S : ℕ → ℕ → Type 0) → ((i j : ℕ) → S i j → R i j) → Complete text items R → Complete text items S
  complete_more items R S f a P d kept i j p s = a P d kept i j p (f i j s)

  pub complete_empty : Complete text [] (λ i j. i ≡ j)
  complete_empty P d kept i j p e = subst (λ q. P q j) (let f : d ≡ d + 0 = omega arith in f) (subst (P d) e p)

  pub complete_one : (x : Item) (R : ℕ → ℕ → Type 0) → ((s i j : ℕ) → R i j → Leads text (Some x) s i (s + 1) j) → Complete text (x ∷ []) R
  complete_one x R f P d kept i j p r =
      kept 0 i (d + 1) j (omega arith) (subst (λ q. P q i) (let e : d ≡ d + 0 = omega arith in e) p)
      (subst (λ q. Leads text (Some x) (d + 0) i q j) (let e : d + 0 + 1 ≡ d + 1 = omega arith in e) (f (d + 0) i j r))

  pub complete_then : (a b : List Item) (R S : ℕ → ℕ → Type 0) → Complete text a R → Complete text b S → Complete text (a ++ b) (Next R S)
  complete_then a b R S ca cb P d kept i j p h =
      let middle = ca P d (kept_first a b P d kept) i h.0 p h.1 in
      subst (λ q. P q j) (let e : (d + length a) + length b ≡ d + length (a ++ b) = omega (arith, length-append a b) in e)
      (cb P (d + length a) (kept_second a b P d kept) h.0 j middle h.2)

  module _ (a : List Item) (R : ℕ → ℕ → Type 0) (ca : Complete text a R) where
    pub complete_optional : Complete text (optional a) (Maybe R)
    complete_optional P d kept i j p h =
        let here : P (d + 0) i = subst (λ q. P q i) (let e : d ≡ d + 0 = omega arith in e) p in
        let tail : Kept text a P (d + 1) = kept_second (Fork (length a + 1) ∷ []) a P d kept in
        ⊎_elim
        (λ e. kept 0 i (d + length (optional a)) j (omega arith) here (sym e, inr (omega arith)))
        (λ r.
        let inside : P (d + 1) i = kept 0 i (d + 1) i (omega arith) here (refl, inl (omega arith)) in
        subst (λ q. P q j) (let e : (d + 1) + length a ≡ d + length (optional a) = omega arith in e) (ca P (d + 1) tail i j inside r))
        h

    -- after a pass, the way back stands there, and its two moves are kept
    module _ (P : ℕ → ℕ → Type 0) (d : ℕ) (kept : Kept text (again a) P d) where
      at_back : (k u : ℕ) → P (d + length a) k → (u ≡ (d + length a) + 1) ⊎ (u + length a ≡ d + length a) → P u k
      at_back k u p way =
          let got : slice_get (again a) (length a) ≡ Some (Back (length a)) = ap (slice_get (again a)) (let e : length a ≡ length a + 0 = omega arith in e) ∙ get_second a (Back (length a) ∷ []) 0 in
          kept (length a) k u k (omega (arith, length-append a (Back (length a) ∷ []))) p (lead_at text (Some (Back (length a))) (slice_get (again a) (length a)) (d + length a) (d + length a) k u k (sym got) refl (refl, way))

      passes : (n i j : ℕ) → P d i → Times R (suc n) i j → P (d + length (again a)) j
      passes zero i j p h =
          let over = ca P d (kept_first a (Back (length a) ∷ []) P d kept) i h.0 p h.1 in
          subst (P (d + length (again a))) h.2 (at_back h.0 (d + length (again a)) over (inl (omega (arith, length-append a (Back (length a) ∷ [])))))
      passes (suc n) i j p h =
          let over = ca P d (kept_first a (Back (length a) ∷ []) P d kept) i h.0 p h.1 in
          passes n h.0 j (at_back h.0 d over (inr refl)) h.2

    pub complete_again : Complete text (again a) (Some_times R)
    complete_again P d kept i j p h = passes P d kept h.0 i j p h.1

    pub complete_copies : (n : ℕ) → Complete text (copies n a) (Times R n)
    complete_copies zero = complete_empty
    complete_copies (suc n) = complete_then a (copies n a) R (Times R n) ca (complete_copies n)

  pub complete_at_least : (a : List Item) (R : ℕ → ℕ → Type 0) → Complete text a R → (least : ℕ) → Complete text (at_least least a) (λ i j. (n : ℕ) × IsAllowed least None n × Times R n i j)
  complete_at_least a R ca zero =
      complete_more (at_least zero a) (Maybe (Some_times R)) (λ i j. (n : ℕ) × IsAllowed zero None n × Times R n i j)
      (λ i j h. any h.0 i j h.2)
      (complete_optional (again a) (Some_times R) (complete_again a R ca)) where
        any : (n i j : ℕ) → Times R n i j → Maybe (Some_times R) i j
        any zero i j e = inl e
        any (suc n) i j h = inr (n, h)
  complete_at_least a R ca (suc least) =
      complete_more (at_least (suc least) a) (Next (Times R least) (Some_times R)) (λ i j. (n : ℕ) × IsAllowed (suc least) None n × Times R n i j)
      (λ i j h. apart h.0 i j h.1 h.2)
      (complete_then (copies least a) (again a) (Times R least) (Some_times R) (complete_copies a R ca least) (complete_again a R ca)) where
        apart : (n i j : ℕ) → suc least ≤ n → Times R n i j → Next (Times R least) (Some_times R) i j
        apart n i j within h =
            let e : n ≡ least + suc (n - suc least) = omega arith in
            let t = Times-split R least (suc (n - suc least)) i j (subst (λ c. Times R c i j) e h) in
            (t.0, t.1, (n - suc least, t.2))

  pub complete_between : (a : List Item) (R : ℕ → ℕ → Type 0) → Complete text a R → (least more : ℕ) → Complete text (between least more a) (λ i j. (n : ℕ) × IsAllowed least (Some more) n × Times R n i j)
  complete_between a R ca least more =
      complete_more (between least more a) (Next (Times R least) (Times (Maybe R) more)) (λ i j. (n : ℕ) × IsAllowed least (Some more) n × Times R n i j)
      (λ i j h.
      let e : h.0 ≡ least + (h.0 - least) = omega (arith, h.1.0) in
      let t = Times-split R least (h.0 - least) i j (subst (λ c. Times R c i j) e h.2) in
      (t.0, t.1, Times-few R more (h.0 - least) t.0 j (omega (arith, h.1.0, h.1.1)) t.2))
      (complete_then (copies least a) (copies more (optional a)) (Times R least) (Times (Maybe R) more) (complete_copies a R ca least) (complete_copies (optional a) (Maybe R) (complete_optional a R ca) more))

  pub complete_either : (a b : List Item) (R S : ℕ → ℕ → Type 0) → Complete text a R → Complete text b S → Complete text (either a b) (λ i j. R i j ⊎ S i j)
  complete_either a b R S ca cb P d kept i j p h =
      let skip : List Item = Skip (length b + 1) ∷ [] in
      let half : length (a ++ skip) ≡ length a + 1 = length-append a skip in
      let front : length (optional (a ++ skip)) ≡ length a + 2 = omega (arith, half) in
      let len : length (either a b) ≡ length a + length b + 2 = omega (arith, length-append (optional (a ++ skip)) b, front) in
      let here : P (d + 0) i = subst (λ q. P q i) (let e : d ≡ d + 0 = omega arith in e) p in
      let first : Kept text (optional (a ++ skip)) P d = kept_first (optional (a ++ skip)) b P d kept in
      let tail : Kept text (a ++ skip) P (d + 1) = kept_second (Fork (length (a ++ skip) + 1) ∷ []) (a ++ skip) P d first in
      ⊎_elim
      (λ r.
      let inside : P (d + 1) i = kept 0 i (d + 1) i (omega (arith, len)) here (refl, inl (omega arith)) in
      let over : P ((d + 1) + length a) j = ca P (d + 1) (kept_first a skip P (d + 1) tail) i j inside r in
      let got : slice_get (a ++ skip) (length a) ≡ Some (Skip (length b + 1)) = ap (slice_get (a ++ skip)) (let e : length a ≡ length a + 0 = omega arith in e) ∙ get_second a skip 0 in
      tail (length a) j (d + length (either a b)) j (omega (arith, half)) over (lead_at text (Some (Skip (length b + 1))) (slice_get (a ++ skip) (length a)) ((d + 1) + length a) ((d + 1) + length a) j (d + length (either a b)) j (sym got) refl (refl, omega (arith, len))))
      (λ s.
      let past : P (d + length (optional (a ++ skip))) i = kept 0 i (d + length (optional (a ++ skip))) i (omega (arith, len)) here (refl, inr (omega (arith, front, half))) in
      subst (λ q. P q j) (let e : (d + length (optional (a ++ skip))) + length b ≡ d + length (either a b) = omega (arith, len, front) in e)
      (cb P (d + length (optional (a ++ skip))) (kept_second (optional (a ++ skip)) b P d kept) i j past s))
      h

  pub complete_items : (e : Expression) → Complete text (items_of e) (Spans e text)
  unfolding items_of
  complete_items (OneOf bytes) = complete_one (Takes bytes) (Spans (OneOf bytes) text) (λ s i j h. (refl, h.1, h.0, h.2))
  complete_items Start = complete_one AtStart (Spans Start text) (λ s i j h. (refl, h.1 ∙ sym h.0, h.0))
  complete_items End = complete_one AtEnd (Spans End text) (λ s i j h. (refl, h.1 ∙ sym h.0, h.0))
  complete_items Empty = complete_empty
  complete_items (Then a b) = complete_then (items_of a) (items_of b) (Spans a text) (Spans b text) (complete_items a) (complete_items b)
  complete_items (Or a b) = complete_either (items_of a) (items_of b) (Spans a text) (Spans b text) (complete_items a) (complete_items b)
  complete_items (Repeat a least None) = complete_at_least (items_of a) (Spans a text) (complete_items a) least
  complete_items (Repeat a least (Some more)) = complete_between (items_of a) (Spans a text) (complete_items a) least more
