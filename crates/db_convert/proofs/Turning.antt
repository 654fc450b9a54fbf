-- The items of entries, one after the other, are those of the blocks.
use Rattle.std.proofs.Common.{◌≡◌, ℕ, Bool, true, false, cond, true≢false, List, [], ◌∷◌, ◌++◌, map, filter, get_or, Option, Some, None, refl, sym, ap, ◌∙◌, append_assoc, append-nil, is_lt, is_eq, Ordering}
use Rattle.std.specs.Prelude.{◌||◌}
use Rattle.std.specs.List.{flat_map, list_any}
use Rattle.std.specs.Str.{bytes_eq}
use Rattle.std.specs.Cmp.{tied_itself}
use Rattle.std.specs.Cmp.Lexicographic.{nat_list_cmp_total}
use Rattle.std.proofs.lemmas.List.Folds.{list_any_at}
use Rattle.std.proofs.lemmas.Slice.Eq.{bytes_eq-Decides}
use Rattle.path_order.specs.Path.{parent_of, base_of}
use Rattle.path_order.specs.Order.{path_cmp}
use Rattle.path_order.proofs.OrderLemmas.{path_total, path_cmp_refl}
use Rattle.mlocate_db.specs.Items.{Item, EndItem}
use Rattle.db_convert.specs.Blocks.{Entry, sorted_unique, byte_cmp, parents, names_in, entry_item, block_items, entries_of}
use Rattle.db_convert.specs.Turns.{head_item, opening, closing, items_from}
use Rattle.db_convert.proofs.Sets.{Each, each_map, sorted_unique_each}
use Rattle.db_convert.proofs.Directories.{Below, Sorted, among, first, second, in_dir, listed, sorted_unique_is_sorted, sorted_unique_among, entries_listed}
use Rattle.db_convert.proofs.ReadBack.{each_of}

-- ---- each directory has a name

filter_step : {A : Type 0} (b : Bool) (x : A) (rest : List A) (more : Bool) → (more ≡ true → rest ≡ [] → ⊥) → (b || more) ≡ true → cond b (x ∷ rest) rest ≡ [] → ⊥
filter_step true x rest more f e none = absurd cc
filter_step false x rest more f e none = f e none

filter_some : {A : Type 0} (test : A → Bool) (xs : List A) → list_any test xs ≡ true → filter test xs ≡ [] → ⊥
filter_some test [] e none = absurd cc
filter_some test (x ∷ xs) e none = filter_step (test x) x (filter test xs) (list_any test xs) (filter_some test xs) e none

sorted_some : (k : List ℕ) (ks : List (List ℕ)) → sorted_unique byte_cmp (k ∷ ks) ≡ [] → ⊥
sorted_some k ks none =
    let here : among byte_cmp k (k ∷ ks) ≡ true = ap (λ (o : Ordering). is_eq o || among byte_cmp k ks) (tied_itself nat_list_cmp_total k) in
    true≢false (sym here ∙ sym (sorted_unique_among byte_cmp nat_list_cmp_total k (k ∷ ks)) ∙ ap (among byte_cmp k) none)

map_some : (fs : List (List ℕ)) → (fs ≡ [] → ⊥) → sorted_unique byte_cmp (map base_of fs) ≡ [] → ⊥
map_some [] some none = some refl
map_some (f ∷ fs) some none = sorted_some (base_of f) (map base_of fs) none

-- a directory of one of the paths
abbrev IsParent : List (List ℕ) → List ℕ → Type 0
IsParent paths dir = list_any (λ path. bytes_eq (parent_of path) dir) paths ≡ true

names_some : (paths : List (List ℕ)) (dir : List ℕ) → IsParent paths dir → names_in paths dir ≡ [] → ⊥
names_some paths dir has none = map_some (filter (λ path. bytes_eq (parent_of path) dir) paths) (filter_some (λ path. bytes_eq (parent_of path) dir) paths has) none

are_parents : (paths : List (List ℕ)) → Each (IsParent paths) (parents paths)
are_parents paths =
    sorted_unique_each path_cmp path_total (IsParent paths) (map parent_of paths)
    (each_map (IsParent paths) parent_of paths (each_of (λ path. IsParent paths (parent_of path)) paths (λ k d lt.
    list_any_at (λ path. bytes_eq (parent_of path) (parent_of (get_or paths k d))) paths k d lt ((bytes_eq-Decides (parent_of (get_or paths k d)) (parent_of (get_or paths k d))).1 refl))))

-- ---- what stands before an entry

same_open : (dir : List ℕ) → opening (Some dir) dir ≡ []
same_open dir = ap (λ (b : Bool). cond b [] (EndItem ∷ head_item dir ∷ [])) ((bytes_eq-Decides dir dir).1 refl)

-- the directory that is open comes before these
abbrev IsOther : Option (List ℕ) → List (List ℕ) → Type 0
IsOther None dirs = Unit {0}
IsOther (Some opened) dirs = Below path_cmp opened dirs

not_same : (opened dir : List ℕ) → is_lt (path_cmp opened dir) ≡ true → (b : Bool) → bytes_eq opened dir ≡ b → b ≡ false
not_same opened dir less true e = absurd (true≢false (sym less ∙ ap is_lt (path_cmp_refl opened dir ((bytes_eq-Decides opened dir).0 e))))
not_same opened dir less false e = refl

other_open : (opened : Option (List ℕ)) (dir : List ℕ) (dirs : List (List ℕ)) → IsOther opened (dir ∷ dirs) → opening opened dir ≡ closing opened ++ head_item dir ∷ []
other_open None dir dirs h = refl
other_open (Some opened) dir dirs h = ap (λ (b : Bool). cond b [] (EndItem ∷ head_item dir ∷ [])) (not_same opened dir (first _ _ h) (bytes_eq opened dir) refl)

-- ---- the items

-- entries of the directory that is open
same_dir : (paths : List (List ℕ)) (dir : List ℕ) (names : List (List ℕ)) (rest : List Entry) → items_from paths (Some dir) (in_dir dir names ++ rest) ≡ map (entry_item paths dir) names ++ items_from paths (Some dir) rest
same_dir paths dir [] rest = refl
same_dir paths dir (name ∷ names) rest =
    ap (λ (before : List Item). (before ++ entry_item paths dir name ∷ []) ++ items_from paths (Some dir) (in_dir dir names ++ rest)) (same_open dir)
    ∙ ap (λ (items : List Item). entry_item paths dir name ∷ items) (same_dir paths dir names rest)

regroup : (close : List Item) (head entry : Item) (entries items : List Item) → ((close ++ head ∷ []) ++ entry ∷ []) ++ (entries ++ (EndItem ∷ items)) ≡ close ++ ((head ∷ (entry ∷ entries) ++ EndItem ∷ []) ++ items)
regroup close head entry entries items =
    append_assoc (close ++ head ∷ []) (entry ∷ []) (entries ++ (EndItem ∷ items))
    ∙ append_assoc close (head ∷ []) (entry ∷ entries ++ (EndItem ∷ items))
    ∙ ap (λ (l : List Item). close ++ head ∷ entry ∷ l) (sym (append_assoc entries (EndItem ∷ []) items))

-- the block of a directory, and the items behind it
block_from : (paths : List (List ℕ)) (opened : Option (List ℕ)) (dir : List ℕ) (dirs : List (List ℕ)) → IsOther opened (dir ∷ dirs) → IsParent paths dir → items_from paths (Some dir) (listed paths dirs) ≡ EndItem ∷ flat_map (block_items paths) dirs
    → items_from paths opened (listed paths (dir ∷ dirs)) ≡ closing opened ++ flat_map (block_items paths) (dir ∷ dirs)
block_from paths opened dir dirs other has later = by (names_in paths dir) refl
  where
    by : (names : List (List ℕ)) → names_in paths dir ≡ names
        → items_from paths opened (in_dir dir names ++ listed paths dirs) ≡ closing opened ++ ((head_item dir ∷ map (entry_item paths dir) names ++ EndItem ∷ []) ++ flat_map (block_items paths) dirs)
    by [] e = absurd (names_some paths dir has e)
    by (name ∷ names) e =
        (λ i. (other_open opened dir dirs other i ++ entry_item paths dir name ∷ []) ++ (same_dir paths dir names (listed paths dirs) ∙ ap (λ (l : List Item). map (entry_item paths dir) names ++ l) later) i)
        ∙ regroup (closing opened) (head_item dir) (entry_item paths dir name) (map (entry_item paths dir) names) (flat_map (block_items paths) dirs)

blocks_from : (paths : List (List ℕ)) (opened : Option (List ℕ)) (dirs : List (List ℕ)) → Sorted path_cmp dirs → IsOther opened dirs → Each (IsParent paths) dirs → items_from paths opened (listed paths dirs) ≡ closing opened ++ flat_map (block_items paths) dirs
blocks_from paths opened [] up other has = sym (append-nil (closing opened))
blocks_from paths opened (dir ∷ dirs) up other has = block_from paths opened dir dirs other has.0 (blocks_from paths (Some dir) dirs (second _ _ up) (first _ _ up) has.1)

pub blocks_are : (paths : List (List ℕ)) → items_from paths None (entries_of paths) ≡ flat_map (block_items paths) (parents paths)
blocks_are paths = ap (items_from paths None) (entries_listed paths) ∙ blocks_from paths None (parents paths) (sorted_unique_is_sorted path_cmp (map parent_of paths)) tt (are_parents paths)
