-- Values under keys that rise: look-ups and edits at a place.
use Rattle.std.proofs.Common.{◌≡◌, ℕ, zero, suc, ◌+◌, ◌<◌, ◌≤◌, Bool, true, false, not, cond, ◌&&◌, T, true≢false, List, [], ◌∷◌, length, get_or, refl, sym, ◌∙◌, ap, subst, arith, Some, None, is_lt, is_eq, Ordering, Less, Equal, Greater, nat_cmp, ◌⊎◌, inl, inr}
use Rattle.std.proofs.Math.ListN.{set}
use Rattle.std.proofs.lemmas.Cmp.{nat_list_cmp_total, tied_itself}
use Rattle.std.proofs.lemmas.Bool.{cases_lt}
use Rattle.std.specs.Cmp.Lexicographic.{slice_cmp}
use Rattle.std.specs.FinMap.{find, put, is_sorted}
use Rattle.std.specs.FinMap.Entries.{below_all, where_key, by_order}
use Rattle.std.specs.List.{insert, remove}
use Rattle.std.specs.List.Sorted.{IsSortedBy}
use Rattle.std.specs.Ordering.{eq_by_cmp, ordering_reverse}
use Rattle.loc_outside.specs.declared.memory.keyed.Keyed.{Keyed}
use Rattle.loc_outside.specs.Keyed.{pairs_by, KeysRise, IsAt, IsGap}

-- the order of keys by their bytes
abbrev pub by_bytes : List ℕ → List ℕ → Ordering
by_bytes = slice_cmp nat_cmp

pub holds : (b : Bool) → T b → b ≡ true
holds true h = refl
holds false h = absurd h

pub test : (b : Bool) → b ≡ true → T b
test true e = tt
test false e = absurd (true≢false (sym e))

parts : (a b : Bool) → T (a && b) → T a × T b
parts true b h = (tt, h)
parts false b h = absurd h

less_of : (o : Ordering) → T (is_lt o) → o ≡ Less
less_of Less t = refl
less_of Equal t = absurd t
less_of Greater t = absurd t

-- the order of two keys, the other way round
greater_back : (a b : List ℕ) → by_bytes a b ≡ Less → by_bytes b a ≡ Greater
greater_back a b e = nat_list_cmp_total.antisymm b a ∙ ap ordering_reverse e

less_back : (a b : List ℕ) → by_bytes a b ≡ Greater → by_bytes b a ≡ Less
less_back a b e = nat_list_cmp_total.antisymm b a ∙ ap ordering_reverse e

tied : (a b : List ℕ) → a ≡ b → by_bytes a b ≡ Equal
tied a b e = ap (λ (l : List ℕ). by_bytes a l) (sym e) ∙ tied_itself nat_list_cmp_total a

module _ {V : Type 0} where
  -- whether keys rise does not depend on the values
  below_alike : {X Y : Type 0} (f : V → X) (g : V → Y) (key : List ℕ) (items : List (Keyed V)) → below_all by_bytes key (pairs_by f items) ≡ below_all by_bytes key (pairs_by g items)
  below_alike f g key [] = refl
  below_alike f g key (x ∷ items) = ap (λ (b : Bool). is_lt (by_bytes key x.key.items) && b) (below_alike f g key items)

  rise_alike : {X Y : Type 0} (f : V → X) (g : V → Y) (items : List (Keyed V)) → is_sorted by_bytes (pairs_by f items) ≡ is_sorted by_bytes (pairs_by g items)
  rise_alike f g [] = refl
  rise_alike f g (x ∷ items) = λ i. below_alike f g x.key.items items i && rise_alike f g items i

  pub rises_by : {X : Type 0} (f : V → X) (items : List (Keyed V)) → KeysRise items → T (is_sorted by_bytes (pairs_by f items))
  rises_by f items up = test _ (rise_alike f (λ v. v) items ∙ up)

  pub keys_rise : {X : Type 0} (f : V → X) (items : List (Keyed V)) → T (is_sorted by_bytes (pairs_by f items)) → KeysRise items
  keys_rise f items up = rise_alike (λ v. v) f items ∙ holds _ up

  -- the first key comes before the others, which rise
  pub rest_rises : (x : Keyed V) (items : List (Keyed V)) → KeysRise (x ∷ items) → KeysRise items
  rest_rises x items up = holds _ (parts (below_all by_bytes x.key.items (pairs_by (λ v. v) items)) _ (test _ up)).1

  later_key : (x : Keyed V) (items : List (Keyed V)) → KeysRise (x ∷ items) → (i : ℕ) (d : Keyed V) → i < length items → by_bytes x.key.items (get_or items i d).key.items ≡ Less
  later_key x items up = all items (parts (below_all by_bytes x.key.items (pairs_by (λ v. v) items)) _ (test _ up)).0
    where
      all : (items : List (Keyed V)) → T (below_all by_bytes x.key.items (pairs_by (λ v. v) items)) → (i : ℕ) (d : Keyed V) → i < length items → by_bytes x.key.items (get_or items i d).key.items ≡ Less
      all [] h i d lt = absurd (omega arith)
      all (y ∷ items) h zero d lt = less_of _ (parts (is_lt (by_bytes x.key.items y.key.items)) _ h).0
      all (y ∷ items) h (suc i) d lt = all items (parts (is_lt (by_bytes x.key.items y.key.items)) _ h).1 i d (omega arith)

  -- so no key is less than the one before it
  pub sorted_of : (items : List (Keyed V)) → KeysRise items → IsSortedBy (λ (a b : Keyed V). is_lt (by_bytes a.key.items b.key.items)) items
  sorted_of [] up k d low high = absurd (omega arith)
  sorted_of (x ∷ items) up zero d low high = ap is_lt (greater_back x.key.items (get_or items 0 d).key.items (later_key x items up 0 d (omega arith)))
  sorted_of (x ∷ items) up (suc k) d low high =
      let next : suc (k + 1) ≡ suc k + 1 = omega arith in
      subst (λ (n : ℕ). is_lt (by_bytes (get_or (x ∷ items) n d).key.items (get_or items k d).key.items) ≡ false) next (sorted_of items (rest_rises x items up) k d (omega arith) (omega arith))

  -- no key is this one
  abbrev pub Apart : List ℕ → List (Keyed V) → Type 0
  Apart key items = (k : ℕ) (d : Keyed V) → k < length items → eq_by_cmp by_bytes key (get_or items k d).key.items ≡ false

  pub gap_apart : (items : List (Keyed V)) (key : List ℕ) (i : ℕ) → IsGap items key i → Apart key items
  gap_apart items key i gap k d lt = by (cases_lt k i)
    where
      by : (k < i) ⊎ (i ≤ k) → eq_by_cmp by_bytes key (get_or items k d).key.items ≡ false
      by (inl before) = ap is_eq (greater_back (get_or items k d).key.items key (gap.1.0 k d (omega arith) before))
      by (inr from) = ap is_eq (less_back (get_or items k d).key.items key (gap.1.1 k d from lt))

  module _ {X : Type 0} (f : V → X) where
    -- an item is put in the place of the one that has its key
    pub put_at : (items : List (Keyed V)) (i : ℕ) (item : Keyed V) (key : List ℕ) → KeysRise items → IsAt items key i → item.key.items ≡ key → pairs_by f (set items i item) ≡ put by_bytes key (f item.value) (pairs_by f items)
    put_at [] i item key up here named = absurd (omega (arith, here.0))
    put_at (x ∷ items) zero item key up here named =
        (λ i. ((named ∙ sym (here.1 x)) i, f item.value) ∷ pairs_by f items)
        ∙ sym (ap (λ (o : Ordering). by_order o ((key, f item.value) ∷ (x.key.items, f x.value) ∷ pairs_by f items) ((x.key.items, f item.value) ∷ pairs_by f items) ((x.key.items, f x.value) ∷ put by_bytes key (f item.value) (pairs_by f items))) (tied key x.key.items (sym (here.1 x))))
    put_at (x ∷ items) (suc i) item key up here named =
        let later : by_bytes x.key.items key ≡ Less = ap (by_bytes x.key.items) (sym (here.1 x)) ∙ later_key x items up i x (omega (arith, here.0)) in
        ap (λ (rest : List (List ℕ × X)). (x.key.items, f x.value) ∷ rest) (put_at items i item key (rest_rises x items up) (omega (arith, here.0), λ d. here.1 d) named)
        ∙ sym (ap (λ (o : Ordering). by_order o ((key, f item.value) ∷ (x.key.items, f x.value) ∷ pairs_by f items) ((x.key.items, f item.value) ∷ pairs_by f items) ((x.key.items, f x.value) ∷ put by_bytes key (f item.value) (pairs_by f items))) (greater_back x.key.items key later))

    -- an item is put where its key belongs
    pub put_gap : (items : List (Keyed V)) (i : ℕ) (item : Keyed V) (key : List ℕ) → IsGap items key i → item.key.items ≡ key → pairs_by f (insert items i item) ≡ put by_bytes key (f item.value) (pairs_by f items)
    put_gap [] zero item key gap named = λ i. (named i, f item.value) ∷ []
    put_gap [] (suc i) item key gap named = absurd (omega (arith, gap.0))
    put_gap (x ∷ items) zero item key gap named =
        (λ i. (named i, f item.value) ∷ (x.key.items, f x.value) ∷ pairs_by f items)
        ∙ sym (ap (λ (o : Ordering). by_order o ((key, f item.value) ∷ (x.key.items, f x.value) ∷ pairs_by f items) ((x.key.items, f item.value) ∷ pairs_by f items) ((x.key.items, f x.value) ∷ put by_bytes key (f item.value) (pairs_by f items))) (less_back x.key.items key (gap.1.1 0 x (omega arith) (omega arith))))
    put_gap (x ∷ items) (suc i) item key gap named =
        ap (λ (rest : List (List ℕ × X)). (x.key.items, f x.value) ∷ rest)
        (put_gap items i item key (omega (arith, gap.0), (λ k d low high. gap.1.0 (suc k) d (omega arith) (omega arith), λ k d low high. gap.1.1 (suc k) d (omega arith) (omega arith))) named)
        ∙ sym (ap (λ (o : Ordering). by_order o ((key, f item.value) ∷ (x.key.items, f x.value) ∷ pairs_by f items) ((x.key.items, f item.value) ∷ pairs_by f items) ((x.key.items, f x.value) ∷ put by_bytes key (f item.value) (pairs_by f items))) (greater_back x.key.items key (gap.1.0 0 x (omega arith) (omega arith))))

    -- what is found of a key
    pub find_apart : (items : List (Keyed V)) (key : List ℕ) → Apart key items → find by_bytes key (pairs_by f items) ≡ None
    find_apart [] key apart = refl
    find_apart (x ∷ items) key apart =
        ap (λ (b : Bool). cond b (Some (f x.value)) (find by_bytes key (pairs_by f items))) (apart 0 x (omega arith)) ∙ find_apart items key (λ k d lt. apart (suc k) d (omega arith))

    pub find_at : (items : List (Keyed V)) (i : ℕ) (item : Keyed V) (key : List ℕ) → KeysRise items → IsAt items key i → item ≡ get_or items i item → find by_bytes key (pairs_by f items) ≡ Some (f item.value)
    find_at [] i item key up here is = absurd (omega (arith, here.0))
    find_at (x ∷ items) zero item key up here is =
        ap (λ (b : Bool). cond b (Some (f x.value)) (find by_bytes key (pairs_by f items))) (ap is_eq (tied key x.key.items (sym (here.1 x)))) ∙ ap (λ (y : Keyed V). Some (f y.value)) (sym is)
    find_at (x ∷ items) (suc i) item key up here is =
        let later : by_bytes x.key.items key ≡ Less = ap (by_bytes x.key.items) (sym (here.1 x)) ∙ later_key x items up i x (omega (arith, here.0)) in
        ap (λ (b : Bool). cond b (Some (f x.value)) (find by_bytes key (pairs_by f items))) (ap is_eq (greater_back x.key.items key later)) ∙ find_at items i item key (rest_rises x items up) (omega (arith, here.0), λ d. here.1 d) is

    -- the items of other keys
    abbrev without : List ℕ → List (Keyed V) → List (List ℕ × X)
    without key items = where_key by_bytes (λ k. not (eq_by_cmp by_bytes key k)) (pairs_by f items)

    pub without_apart : (items : List (Keyed V)) (key : List ℕ) → Apart key items → pairs_by f items ≡ without key items
    without_apart [] key apart = refl
    without_apart (x ∷ items) key apart =
        ap (λ (rest : List (List ℕ × X)). (x.key.items, f x.value) ∷ rest) (without_apart items key (λ k d lt. apart (suc k) d (omega arith)))
        ∙ sym (ap (λ (b : Bool). cond (not b) ((x.key.items, f x.value) ∷ without key items) (without key items)) (apart 0 x (omega arith)))

    pub without_at : (items : List (Keyed V)) (i : ℕ) (key : List ℕ) → KeysRise items → IsAt items key i → pairs_by f (remove items i) ≡ without key items
    without_at [] i key up here = absurd (omega (arith, here.0))
    without_at (x ∷ items) zero key up here =
        without_apart items key (λ k d lt. ap is_eq (ap (λ (l : List ℕ). by_bytes l (get_or items k d).key.items) (sym (here.1 x)) ∙ later_key x items up k d lt))
        ∙ sym (ap (λ (b : Bool). cond (not b) ((x.key.items, f x.value) ∷ without key items) (without key items)) (ap is_eq (tied key x.key.items (sym (here.1 x)))))
    without_at (x ∷ items) (suc i) key up here =
        let later : by_bytes x.key.items key ≡ Less = ap (by_bytes x.key.items) (sym (here.1 x)) ∙ later_key x items up i x (omega (arith, here.0)) in
        ap (λ (rest : List (List ℕ × X)). (x.key.items, f x.value) ∷ rest) (without_at items i key (rest_rises x items up) (omega (arith, here.0), λ d. here.1 d))
        ∙ sym (ap (λ (b : Bool). cond (not b) ((x.key.items, f x.value) ∷ without key items) (without key items)) (ap is_eq (greater_back x.key.items key later)))
