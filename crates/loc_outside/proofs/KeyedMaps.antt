-- The maps of values under keys that rise.
use Rattle.std.proofs.Common.{◌≡◌, ℕ, zero, suc, ◌+◌, ◌<◌, ◌≤◌, Bool, true, false, not, cond, T, List, [], ◌∷◌, ◌++◌, take, length, get_or, slice_get, refl, sym, ◌∙◌, ap, subst, arith, Some, None}
use Rattle.std.proofs.lemmas.Cmp.{nat_list_cmp_total, eq_by_cmp_equiv, alike_right}
use Rattle.std.proofs.lemmas.List.{length-map, map-append, take_more, take_all}
use Rattle.std.specs.Cmp.Lexicographic.{slice_cmp}
use Rattle.std.specs.FinMap as fin
use Rattle.std.specs.FinMap.Entries.{where_key, is_sorted-put, is_sorted-where_key, find-where_key}
use Rattle.std.specs.Ordering.{eq_by_cmp, is_eq, nat_cmp}
use Rattle.loc_outside.specs.declared.memory.keyed.Keyed.{Keyed}
use Rattle.loc_outside.specs.Keyed.{pairs_by, map_by, KeysRise}
use Rattle.loc_outside.proofs.KeyedLemmas.{rises_by, keys_rise}

turned : {A : Type 0} (b : Bool) (x y : A) → cond (not b) x y ≡ cond b y x
turned true x y = refl
turned false x y = refl

module _ {V X : Type 0} (f : V → X) where
  pub entries_are : (items : List (Keyed V)) → KeysRise items → fin.entries (map_by f items) ≡ pairs_by f items
  entries_are items up = fin.entries-from_sorted (slice_cmp nat_cmp) (pairs_by f items) (rises_by f items up)

  pub get_is : (items : List (Keyed V)) (key : List ℕ) → KeysRise items → fin.get (map_by f items) key ≡ fin.find (slice_cmp nat_cmp) key (pairs_by f items)
  get_is items key up = fin.get-from_sorted (slice_cmp nat_cmp) (pairs_by f items) key (rises_by f items up)

  pub map_of_none : map_by f [] ≡ fin.empty
  map_of_none = fin.empty_of_len (map_by f []) (fin.len-entries (map_by f []) ∙ ap length (fin.entries-from_sorted (slice_cmp nat_cmp) [] tt))

  -- an item more, in its place
  pub put_rises : (old new : List (Keyed V)) (key : List ℕ) (v : X) → KeysRise old → pairs_by f new ≡ fin.put (slice_cmp nat_cmp) key v (pairs_by f old) → KeysRise new
  put_rises old new key v up is = keys_rise f new (subst (λ (es : List (List ℕ × X)). T (fin.is_sorted (slice_cmp nat_cmp) es)) (sym is) (is_sorted-put (slice_cmp nat_cmp) nat_list_cmp_total key v (pairs_by f old) (rises_by f old up)))

  pub map_put : (old new : List (Keyed V)) (key : List ℕ) (v : X) → KeysRise old → pairs_by f new ≡ fin.put (slice_cmp nat_cmp) key v (pairs_by f old) → map_by f new ≡ fin.insert (map_by f old) key v
  map_put old new key v up is = fin.same_entries_map _ _ (
      entries_are new (put_rises old new key v up is) ∙ is ∙ sym (fin.entries-insert nat_list_cmp_total (map_by f old) key v ∙ ap (fin.put (slice_cmp nat_cmp) key v) (entries_are old up))
      )

  -- the items of other keys
  abbrev others : List ℕ → List (Keyed V) → List (List ℕ × X)
  others key items = where_key (slice_cmp nat_cmp) (λ k. not (eq_by_cmp (slice_cmp nat_cmp) key k)) (pairs_by f items)

  pub without_rises : (old new : List (Keyed V)) (key : List ℕ) → KeysRise old → pairs_by f new ≡ others key old → KeysRise new
  without_rises old new key up is = keys_rise f new (subst (λ (es : List (List ℕ × X)). T (fin.is_sorted (slice_cmp nat_cmp) es)) (sym is) (is_sorted-where_key (slice_cmp nat_cmp) _ (pairs_by f old) (rises_by f old up)))

  pub map_without : (old new : List (Keyed V)) (key : List ℕ) → KeysRise old → pairs_by f new ≡ others key old → map_by f new ≡ fin.remove (map_by f old) key
  map_without old new key up is = fin.same_map nat_list_cmp_total (fin.slice_cmp-IsAntisymmetric fin.nat_cmp-IsAntisymmetric) _ _ (λ q.
      get_is new q (without_rises old new key up is)
      ∙ ap (fin.find (slice_cmp nat_cmp) q) is
      ∙ find-where_key (slice_cmp nat_cmp) _ q (λ x t. ap (λ o. not (is_eq o)) (sym (alike_right nat_list_cmp_total q x key t))) (pairs_by f old)
      ∙ turned (eq_by_cmp (slice_cmp nat_cmp) key q) _ _
      ∙ (λ i. cond ((eq_by_cmp_equiv nat_list_cmp_total).symm key q i) None (sym (get_is old q up) i))
      ∙ sym (fin.get-remove nat_list_cmp_total (map_by f old) key q))

  pub length_of : (items : List (Keyed V)) → length (pairs_by f items) ≡ length items
  length_of items = length-map items (λ (item : Keyed V). (item.key.items, f item.value))

  -- the pair at a place
  pub get_pair : (items : List (Keyed V)) (i : ℕ) (item : Keyed V) → i < length items → item ≡ get_or items i item → slice_get (pairs_by f items) i ≡ Some (item.key.items, f item.value)
  get_pair [] i item lt is = absurd (omega arith)
  get_pair (x ∷ items) zero item lt is = ap (λ (y : Keyed V). Some (y.key.items, f y.value)) (sym is)
  get_pair (x ∷ items) (suc i) item lt is = get_pair items i item (omega arith) is

  -- an item more was copied
  pub copied_more : (done items : List (Keyed V)) (i : ℕ) (item copy : Keyed V) → i < length items → item ≡ get_or items i item → copy.key.items ≡ item.key.items → f copy.value ≡ f item.value → pairs_by f done ≡ pairs_by f (take i items) → pairs_by f (done ++ copy ∷ []) ≡ pairs_by f (take (i + 1) items)
  copied_more done items i item copy lt is key value so_far =
      map-append (λ (k : Keyed V). (k.key.items, f k.value)) done (copy ∷ [])
      ∙ (λ j. so_far j ++ (key j, value j) ∷ [])
      ∙ sym (ap (pairs_by f) (take_more items i item lt) ∙ map-append (λ (k : Keyed V). (k.key.items, f k.value)) (take i items) (get_or items i item ∷ []) ∙ ap (λ (k : Keyed V). pairs_by f (take i items) ++ (k.key.items, f k.value) ∷ []) (sym is))

  -- all were copied
  pub copied_all : (done items : List (Keyed V)) (i : ℕ) → length items ≤ i → pairs_by f done ≡ pairs_by f (take i items) → pairs_by f done ≡ pairs_by f items
  copied_all done items i past so_far = so_far ∙ ap (pairs_by f) (take_all i items past)

  pub copied_rises : (done items : List (Keyed V)) → pairs_by f done ≡ pairs_by f items → KeysRise items → KeysRise done
  copied_rises done items same up = keys_rise f done (subst (λ (es : List (List ℕ × X)). T (fin.is_sorted (slice_cmp nat_cmp) es)) (sym same) (rises_by f items up))
