use Rattle.std.proofs.Common.{◌≡◌, ℕ, ◌<◌, Bool, List, [], ◌∷◌, length, map, refl, sym, ap, subst, ◌∙◌, IsPermutation}
use Rattle.std.proofs.lemmas.List.Filters.{All-dedup}
use Rattle.std.proofs.lemmas.List.Sorted.{IsPermutation-refl, list_any-IsPermutation}
use Rattle.std.specs.List.{All, dedup, list_any, range_with_len}
use Rattle.std.specs.List.Sorted.{IsSortedByKey}
use Rattle.std.specs.Ordering.{eq_by_cmp}
use Rattle.db_convert.specs.Blocks.{Entry, entry_of, entry_cmp}
use Rattle.db_convert.specs.Orders.{HasSame, IsOrder, Rises, entry_at}
use Rattle.db_convert.proofs.Directories.{any_map, entry_total, entry_apart}
use Rattle.db_convert.proofs.RunPlaces.{same_within}
use Rattle.db_convert.proofs.Sorting.{map-dedup, none_dropped, rises_sorted, sorted_keys, dedup_is, each_place}
use Rattle.db_convert.proofs.order.order_of.Goals as goal

abbrev same : List (List ℕ) → ℕ → ℕ → Bool
same paths next kept = eq_by_cmp entry_cmp (entry_at paths next) (entry_at paths kept)

ordered : (paths : List (List ℕ)) (all sorted kept : List ℕ) → HasSame all (range_with_len 0 (length paths)) → IsPermutation all sorted → IsSortedByKey (entry_at paths) entry_cmp sorted → kept ≡ dedup (same paths) sorted → IsOrder paths kept
ordered paths all sorted kept has moved up left =
    let each : HasSame sorted (range_with_len 0 (length paths)) = λ holds. sym (list_any-IsPermutation holds all sorted moved) ∙ has holds in
    let values : (holds : Entry → Bool) → list_any holds (map (entry_at paths) sorted) ≡ list_any holds (map entry_of paths) = λ holds.
    any_map holds (entry_at paths) sorted ∙ each (λ place. holds (entry_at paths place)) ∙ sym (any_map holds (entry_at paths) (range_with_len 0 (length paths))) ∙ ap (list_any holds) (each_place entry_of [] paths) in
    record {
      within = subst (λ (l : List ℕ). All (λ k. k < length paths) l) (sym left) (All-dedup (same paths) (λ k. k < length paths) sorted (same_within (length paths) sorted each));
      ordered = ap (map (entry_at paths)) left ∙ map-dedup (entry_at paths) (eq_by_cmp entry_cmp) sorted
          ∙ dedup_is entry_cmp entry_total entry_apart (map (entry_at paths) sorted) (map entry_of paths) (sorted_keys entry_cmp (entry_at paths) sorted up) values;
    }

as_it_is : (paths : List (List ℕ)) (places : List ℕ) → HasSame places (range_with_len 0 (length paths)) → Rises paths places (length places) → IsOrder paths places
as_it_is paths [] has up = ordered paths [] [] [] has (IsPermutation-refl []) (rises_sorted entry_cmp entry_total (entry_at paths) [] up) refl
as_it_is paths (x ∷ xs) has up =
    ordered paths (x ∷ xs) (x ∷ xs) (x ∷ xs) has (IsPermutation-refl (x ∷ xs)) (rises_sorted entry_cmp entry_total (entry_at paths) (x ∷ xs) up) (sym (none_dropped entry_cmp entry_total (entry_at paths) x xs up))

has_moved : (all moved : List ℕ) (n : ℕ) → HasSame all (range_with_len 0 n) → IsPermutation all moved → HasSame moved (range_with_len 0 n)
has_moved all moved n has is holds = sym (list_any-IsPermutation holds all moved is) ∙ has holds

pub returns-then-is_in_order : goal.returns-then-is_in_order
returns-then-is_in_order c =
    as_it_is c.args.paths.now _ c.in_ok-places.ensures (subst (λ (l : List ℕ). Rises c.args.paths.now l (length l)) c.deref.ensures.value (c.is_in_order.ensures c.if-is_in_order.true))

pub returns-then-is_in_order-2 : goal.returns-then-is_in_order-2
returns-then-is_in_order-2 c =
    as_it_is c.args.paths.now _ (has_moved _ _ (length c.args.paths.now) c.in_ok-places.ensures c.sort_directories.ensures) (subst (λ (l : List ℕ). Rises c.args.paths.now l (length l)) c.deref-2.ensures.value (c.is_in_order-2.ensures c.if-is_in_order-2.true))

pub returns : goal.returns
returns c =
    ordered c.args.paths.now _ _ _ (has_moved _ _ (length c.args.paths.now) c.in_ok-places.ensures c.sort_directories.ensures) c.in_ok-sort_places.ensures.same c.in_ok-sort_places.ensures.sorted c.drop_repeats.ensures
