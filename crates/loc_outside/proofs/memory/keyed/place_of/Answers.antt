use Rattle.std.proofs.Common.{ℕ, List, Result, Ok, Err, IfOk, IfErr, length, rules}
use Rattle.std.proofs.lemmas.Fn.{always_returns_same}
use Rattle.std.proofs.lemmas.List.Sorted.{searchable_from_sorted}
use Rattle.std.proofs.lemmas.Cmp.{nat_list_cmp_total}
use Rattle.std.specs.FinMap.{nat_cmp-IsAntisymmetric, slice_cmp-IsAntisymmetric}
use Rattle.std.specs.List.Sorted.{IsBinarySearchResult, IsSearchInRange}
use Rattle.loc_outside.specs.declared.memory.keyed.Keyed.{Keyed}
use Rattle.loc_outside.specs.Keyed.{KeysRise, IsAt, IsGap}
use Rattle.loc_outside.proofs.KeyedLemmas.{by_bytes, sorted_of}
use Rattle.loc_outside.proofs.memory.keyed.place_of.Goals as goal

-- what a binary search answers of keys that rise
found : {V : Type 0} (items : List (Keyed V)) (key : List ℕ) (r : Result ℕ ℕ) → IsSearchInRange r (length items) → IsBinarySearchResult (λ (item : Keyed V). by_bytes item.key.items key) items r → IfOk r (λ place. IsAt items key place)
found items key (Ok place) range is = (range, λ d. slice_cmp-IsAntisymmetric nat_cmp-IsAntisymmetric _ _ (is d))
found items key (Err place) range is = tt

absent : {V : Type 0} (items : List (Keyed V)) (key : List ℕ) → KeysRise items → (r : Result ℕ ℕ) → IsSearchInRange r (length items) → IsBinarySearchResult (λ (item : Keyed V). by_bytes item.key.items key) items r → IfErr r (λ place. IsGap items key place)
absent items key up (Ok place) range is = tt
absent items key up (Err place) range is = (range, is (searchable_from_sorted nat_list_cmp_total (λ (item : Keyed _). item.key.items) items key (sorted_of items up)))

pub returns-clause-found : goal.returns-clause-found
returns-clause-found g c =
    found c.args.items.now c.args.key.now c.binary_search_by.result c.binary_search_by.ensures.bound
    (c.binary_search_by.ensures.position (λ item. by_bytes item.key.items c.args.key.now) (always_returns_same _ _ _ (λ a r f' k. search rules)))

pub returns-clause-absent : goal.returns-clause-absent
returns-clause-absent g c =
    absent c.args.items.now c.args.key.now c.requires c.binary_search_by.result c.binary_search_by.ensures.bound
    (c.binary_search_by.ensures.position (λ item. by_bytes item.key.items c.args.key.now) (always_returns_same _ _ _ (λ a r f' k. search rules)))
