-- Where a directory is among entries in order.
use Rattle.std.proofs.Common.{◌≡◌, ℕ, zero, suc, ◌-◌, ◌<◌, ◌≤◌, Bool, true, false, cond, true≢false, List, [], ◌∷◌, map, length, get_or, refl, sym, ap, subst, ◌∙◌, arith, is_lt, is_eq, Ordering, Less, Equal, Greater, Contains}
use Rattle.std.specs.Ordering.{eq_by_cmp, ordering_then}
use Rattle.std.specs.List.{list_any}
use Rattle.std.specs.Str.{bytes_eq}
use Rattle.std.specs.Cmp.{IsTotalOrder, both_ways, Equal-is, tied_itself}
use Rattle.std.specs.FinMap.{IsAntisymmetric}
use Rattle.std.specs.Prelude.{nat_lt}
use Rattle.std.proofs.lemmas.Bool.{ltb-true, ltb-false}
use Rattle.std.proofs.lemmas.List.{length-map, get_or-map, get_or_default}
use Rattle.std.proofs.lemmas.List.Folds.{list_any_at, Any-from_list_any}
use Rattle.std.proofs.lemmas.Map.Views.{Contains-from_any}
use Rattle.std.proofs.lemmas.Slice.Eq.{bytes_eq-Decides}
use Rattle.path_order.specs.declared.kind.Kind.TheVariants.{File, Directory}
use Rattle.path_order.specs.Path.{parent_of}
use Rattle.path_order.specs.Order.{path_cmp}
use Rattle.path_order.proofs.OrderLemmas.{path_total, path_same, path_cmp_refl}
use Rattle.db_convert.specs.Blocks.{Entry, byte_cmp, entry_of, entry_cmp, entries_of, kind_in}
use Rattle.db_convert.specs.Orders.{IsOrder, IsPast, IsAhead, entry_at, is_before}
use Rattle.db_convert.proofs.Directories.{Below, Sorted, among, first, second, entry_total, entry_apart, any_map, sorted_unique_is_sorted, sorted_unique_among}

abbrev none : Entry
none = ([], [])

-- ---- the directories of entries in order do not fall

less : (o : Ordering) → is_lt o ≡ true → o ≡ Less
less Less e = refl
less Equal e = absurd cc
less Greater e = absurd cc

less_through : (a b c : List ℕ) (o p : Ordering) → path_cmp a b ≡ o → is_lt (ordering_then o p) ≡ true → is_lt (path_cmp b c) ≡ true → is_lt (path_cmp a c) ≡ true
less_through a b c Less p is h k = ap is_lt (path_total.trans a b c is (less _ k))
less_through a b c Equal p is h k = subst (λ (x : List ℕ). is_lt (path_cmp x c) ≡ true) (sym (path_same a b is)) k
less_through a b c Greater p is h k = absurd cc

below_at : (e : Entry) (es : List Entry) → Below entry_cmp e es → (j : ℕ) → j < length es → is_lt (entry_cmp e (get_or es j none)) ≡ true
below_at e [] h j lt = absurd (omega (arith, lt))
below_at e (x ∷ es) h zero lt = first _ _ h
below_at e (x ∷ es) h (suc j) lt = below_at e es (second _ _ h) j (omega (arith, lt))

-- where the directory of an entry comes before another, so do those of the entries before it
falls : (es : List Entry) → Sorted entry_cmp es → (dir : List ℕ) (k j : ℕ) → k ≤ j → j < length es → is_lt (path_cmp (get_or es j none).0 dir) ≡ true → is_lt (path_cmp (get_or es k none).0 dir) ≡ true
falls [] up dir k j le lt h = absurd (omega (arith, lt))
falls (e ∷ es) up dir zero zero le lt h = h
falls (e ∷ es) up dir zero (suc j) le lt h =
    let x : Entry = get_or es j none in
    less_through e.0 x.0 dir (path_cmp e.0 x.0) (byte_cmp e.1 x.1) refl (below_at e es (first _ _ up) j (omega (arith, lt))) h
falls (e ∷ es) up dir (suc k) zero le lt h = absurd (omega (arith, le))
falls (e ∷ es) up dir (suc k) (suc j) le lt h = falls es (second _ _ up) dir k j (omega (arith, le)) (omega (arith, lt)) h

-- ---- the directory is found where it is sought

module _ (es : List Entry) (up : Sorted entry_cmp es) (dir : List ℕ) where
  abbrev before : ℕ → Bool
  before k = is_lt (path_cmp (get_or es k none).0 dir)

  not_itself : (k : ℕ) → (get_or es k none).0 ≡ dir → before k ≡ true → ⊥
  not_itself k is h = true≢false (sym h ∙ ap is_lt (path_cmp_refl _ _ is))

  -- two entries in order, of which the later one is of the directory
  not_after : (a b : Entry) (o p : Ordering) → path_cmp a.0 b.0 ≡ o → is_lt (ordering_then o p) ≡ true → b.0 ≡ dir → is_lt (path_cmp a.0 dir) ≡ false → a.0 ≡ dir
  not_after a b Less p is h same not = absurd (true≢false (sym (ap is_lt is) ∙ ap (λ (x : List ℕ). is_lt (path_cmp a.0 x)) same ∙ not))
  not_after a b Equal p is h same not = path_same a.0 b.0 is ∙ same
  not_after a b Greater p is h same not = absurd cc

  ordered : (xs : List Entry) → Sorted entry_cmp xs → (k j : ℕ) → k < j → j < length xs → is_lt (entry_cmp (get_or xs k none) (get_or xs j none)) ≡ true
  ordered [] h k j lt within = absurd (omega (arith, within))
  ordered (x ∷ xs) h k zero lt within = absurd (omega (arith, lt))
  ordered (x ∷ xs) h zero (suc j) lt within = below_at x xs (first _ _ h) j (omega (arith, within))
  ordered (x ∷ xs) h (suc k) (suc j) lt within = ordered xs (second _ _ h) k j (omega (arith, lt)) (omega (arith, within))

  -- an entry of the directory, with no entry past it before the place: the place has such an entry
  here : (n j : ℕ) → n ≤ length es → (0 < n → before (n - 1) ≡ true) → (n < length es → before n ≡ false) → j < length es → (get_or es j none).0 ≡ dir → (n < length es) × ((get_or es n none).0 ≡ dir)
  here n j within past ahead lt is = by (nat_lt j n) refl
    where
      by : (b : Bool) → nat_lt j n ≡ b → (n < length es) × ((get_or es n none).0 ≡ dir)
      by true e = let h : j < n = ltb-true j n e in absurd (not_itself j is (falls es up dir j (n - 1) (omega (arith, h)) (omega (arith, h, within)) (past (omega (arith, h)))))
      by false e = let h : n ≤ j = ltb-false j n e in again (nat_lt n j) refl h
        where
          again : (b : Bool) → nat_lt n j ≡ b → n ≤ j → (n < length es) × ((get_or es n none).0 ≡ dir)
          again true e h =
              let some : n < length es = omega (arith, h, lt) in
              let x : Entry = get_or es n none in
              let y : Entry = get_or es j none in
              (some, not_after x y (path_cmp x.0 y.0) (byte_cmp x.1 y.1) refl (ordered es up n j (ltb-true n j e) lt) is (ahead some))
          again false e h =
              let same : n ≡ j = omega (arith, h, ltb-false n j e) in
              (omega (arith, same, lt), ap (λ (k : ℕ). (get_or es k none).0) same ∙ is)

-- ---- the entries in order have the directories of the paths

same_values : {K : Type 0} (R : K → K → Ordering) → IsTotalOrder R → IsAntisymmetric R → (p : K → Bool) (xs ys : List K) → ((q : K) → among R q xs ≡ among R q ys) → list_any p xs ≡ true → list_any p ys ≡ true
same_values {K} R total apart p xs ys same e =
    let found = Any-from_list_any p xs e in
    let x : K = found.1 in
    let has : among R x xs ≡ true = list_any_at (eq_by_cmp R x) xs found.0 x found.2 (ap (eq_by_cmp R x) found.3 ∙ ap is_eq (tied_itself total x)) in
    let there : Contains ys x = Contains-from_any (λ a b t. apart a b ((Equal-is (R a b)).0 t)) x ys (sym (same x) ∙ has) in
    list_any_at p ys there.0 x there.1 (ap p there.2 ∙ found.4)

abbrev in_directory : List ℕ → Entry → Bool
in_directory dir e = bytes_eq e.0 dir

same_directories : (paths : List (List ℕ)) (dir : List ℕ) → list_any (in_directory dir) (entries_of paths) ≡ list_any (λ path. bytes_eq (parent_of path) dir) paths
same_directories paths dir =
    let values : (q : Entry) → among entry_cmp q (entries_of paths) ≡ among entry_cmp q (map entry_of paths) = λ q. sorted_unique_among entry_cmp entry_total q (map entry_of paths) in
    both_ways _ _
    (same_values entry_cmp entry_total entry_apart (in_directory dir) (entries_of paths) (map entry_of paths) values)
    (same_values entry_cmp entry_total entry_apart (in_directory dir) (map entry_of paths) (entries_of paths) (λ q. sym (values q)))
    ∙ any_map (in_directory dir) entry_of paths

-- ---- an order of paths

module _ (paths : List (List ℕ)) (places : List ℕ) (order : IsOrder paths places) where
  pub order_length : length (entries_of paths) ≡ length places
  order_length = ap length (sym order.ordered) ∙ length-map places (entry_at paths)

  pub ordered_entry : (k : ℕ) → k < length places → get_or (entries_of paths) k none ≡ entry_at paths (get_or places k 0)
  ordered_entry k lt = ap (λ (es : List Entry). get_or es k none) (sym order.ordered) ∙ get_or-map (entry_at paths) places k 0 none lt

  before_is : (dir : List ℕ) (k : ℕ) → k < length places → is_lt (path_cmp (get_or (entries_of paths) k none).0 dir) ≡ is_before paths places dir k
  before_is dir k lt = ap (λ (e : Entry). is_lt (path_cmp e.0 dir)) (ordered_entry k lt)

  kind_by : (path : List ℕ) (b : Bool) → list_any (in_directory path) (entries_of paths) ≡ b → cond b Directory File ≡ kind_in paths path
  kind_by path b e = ap (λ (t : Bool). cond t Directory File) (sym e ∙ same_directories paths path)

  pub directory_found : (path : List ℕ) (n : ℕ) → n < length places → (entry_at paths (get_or places n 0)).0 ≡ path → Directory ≡ kind_in paths path
  directory_found path n lt is =
      kind_by path true (list_any_at (in_directory path) (entries_of paths) n none (omega (arith, lt, order_length))
      ((bytes_eq-Decides (get_or (entries_of paths) n none).0 path).1 (ap (λ (e : Entry). e.0) (ordered_entry n lt) ∙ is)))

  pub directory_missing : (path : List ℕ) (n : ℕ) → n ≤ length places → IsPast paths places path n → IsAhead paths places path n → (n < length places → bytes_eq (entry_at paths (get_or places n 0)).0 path ≡ false) → File ≡ kind_in paths path
  directory_missing path n within past ahead other = by (list_any (in_directory path) (entries_of paths)) refl
    where
      by : (b : Bool) → list_any (in_directory path) (entries_of paths) ≡ b → File ≡ kind_in paths path
      by false e = kind_by path false e
      by true e =
          let found = Any-from_list_any (in_directory path) (entries_of paths) e in
          let is : get_or (entries_of paths) found.0 none ≡ found.1 = get_or_default (entries_of paths) found.0 none found.1 found.2 ∙ found.3 in
          let at = here (entries_of paths) (sorted_unique_is_sorted entry_cmp (map entry_of paths)) path n found.0 (omega (arith, within, order_length))
          (λ some. before_is path (n - 1) (omega (arith, some, within)) ∙ past some)
          (λ lt. let l : n < length places = omega (arith, lt, order_length) in before_is path n l ∙ ahead l)
          found.2 (ap (λ (x : Entry). x.0) is ∙ (bytes_eq-Decides found.1.0 path).0 found.4) in
          let l : n < length places = omega (arith, at.0, order_length) in
          absurd (true≢false (sym ((bytes_eq-Decides (entry_at paths (get_or places n 0)).0 path).1 (ap (λ (x : Entry). x.0) (sym (ordered_entry n l)) ∙ at.1)) ∙ other l))
