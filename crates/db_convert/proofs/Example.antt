-- The items of a worked database. A finite map doesn't compute, so its keys are told one insertion at a time.
use Rattle.std.proofs.Common.{◌≡◌, ℕ, List, [], ◌∷◌, ◌++◌, map, sym, ap, ◌∙◌, Ordering}
use Rattle.std.specs.Prelude.{codes}
use Rattle.std.specs.List.{flat_map}
use Rattle.std.specs.Cmp.{IsTotalOrder}
use Rattle.std.specs.Cmp.Lexicographic.{nat_list_cmp_total}
use Rattle.std.proofs.lemmas.List.{nil_from_length}
use Rattle.std.specs.FinMap.{from_entries, entries, empty, entries-insert, len-entries, len-empty}
use Rattle.std.specs.FinMap.Entries.{put}
use Rattle.path_order.specs.Order.{path_cmp}
use Rattle.path_order.proofs.OrderLemmas.{path_total}
use Rattle.mlocate_db.specs.Items.{Item, EndItem}
use Rattle.db_convert.specs.Blocks.{sorted_unique, byte_cmp, parents, header_item, entry_item, block_items, database_items}
use Rattle.db_convert.specs.Example.{four_paths, head, their_items}

module _ {K : Type 0} (order : K → K → Ordering) (total : IsTotalOrder order) where
  abbrev puts : List K → List (K × Unit {0})
  puts [] = []
  puts (k ∷ ks) = put order k tt (puts ks)

  abbrev marked : List K → List (K × Unit {0})
  marked ks = map (λ k. (k, tt {0})) ks

  none : entries {R = order} (empty {X = Unit {0}}) ≡ []
  none = nil_from_length (entries {R = order} (empty {X = Unit {0}})) (sym (len-entries {R = order} (empty {X = Unit {0}})) ∙ len-empty order (Unit {0}))

  entries_put : (ks : List K) → entries (from_entries {R = order} (marked ks)) ≡ puts ks
  entries_put [] = none
  entries_put (k ∷ ks) = entries-insert total (from_entries (marked ks)) k tt ∙ ap (λ (es : List (K × Unit {0})). put order k tt es) (entries_put ks)

  sorted_by_put : (ks : List K) → sorted_unique order ks ≡ map (λ (e : K × Unit {0}). e.0) (puts ks)
  sorted_by_put ks = ap (λ (es : List (K × Unit {0})). map (λ (e : K × Unit {0}). e.0) es) (entries_put ks)

four_parents : parents four_paths ≡ codes "/a" ∷ codes "/a/z" ∷ codes "/a-" ∷ codes "/a.b" ∷ []
four_parents = sorted_by_put path_cmp path_total (codes "/a-" ∷ codes "/a/z" ∷ codes "/a" ∷ codes "/a.b" ∷ [])

one_name : (name : List ℕ) → sorted_unique byte_cmp (name ∷ []) ≡ name ∷ []
one_name name = sorted_by_put byte_cmp nat_list_cmp_total (name ∷ [])

abbrev block_of : List ℕ → List (List ℕ) → List Item
block_of dir names = head dir ∷ map (entry_item four_paths dir) names ++ EndItem ∷ []

abbrev with_names : List (List ℕ) → List (List ℕ) → List (List ℕ) → List Item
with_names z q y = header_item ∷ (block_of (codes "/a") z ++ (block_of (codes "/a/z") q ++ (block_of (codes "/a-") y ++ (block_of (codes "/a.b") z ++ []))))

pub four_items : database_items four_paths ≡ their_items
four_items =
    ap (λ (dirs : List (List ℕ)). header_item ∷ flat_map (block_items four_paths) dirs) four_parents
    ∙ (λ i. with_names (one_name (codes "z") i) (one_name (codes "q") i) (one_name (codes "y") i))
