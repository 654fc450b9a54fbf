-- The paths of the blocks are those of the list in the order of their directories and names.
use Rattle.std.proofs.Common.{◌≡◌, ℕ, Bool, true, false, cond, List, [], ◌∷◌, ◌++◌, map, filter, Option, Some, None, T, refl, sym, subst, ap, ◌∙◌, Less, Equal, Greater, Ordering, is_lt}
use Rattle.std.specs.Prelude.{◌&&◌, ◌||◌, is_some}
use Rattle.std.specs.Ordering.{eq_by_cmp, ordering_then}
use Rattle.std.specs.List.{flat_map, list_any}
use Rattle.std.specs.Str.{bytes_eq}
use Rattle.std.specs.Cmp.{IsTotalOrder, then_total, on_total, tied_itself, tied_then, both_ways, Equal-is}
use Rattle.std.specs.Cmp.Lexicographic.{nat_list_cmp_total}
use Rattle.std.specs.FinMap.{FinMap, IsAntisymmetric, slice_cmp-IsAntisymmetric, nat_cmp-IsAntisymmetric, from_entries, from_sorted, entries, keys, contains_key-keys, get-from_entries, get-from_sorted, entries_sorted, entries-from_sorted, same_map}
use Rattle.std.specs.FinMap.Entries.{find, below_all, is_sorted, is_some-find}
use Rattle.std.proofs.lemmas.Slice.Eq.{bytes_eq-Decides}
use Rattle.path_order.specs.Path.{parent_of, base_of, joined}
use Rattle.path_order.specs.Order.{path_cmp}
use Rattle.path_order.proofs.OrderLemmas.{path_total, path_same}
use Rattle.db_convert.specs.Blocks.{sorted_unique, byte_cmp, parents, names_in, Entry, entry_of, entry_path, entry_cmp, entries_of, by_directory}
use Rattle.db_convert.proofs.DatabaseItems.{block_paths}

abbrev pub marked : {K : Type 0} → List K → List (K × Unit {0})
marked ks = map (λ k. (k, tt {0})) ks

pub first : (a b : Bool) → (a && b) ≡ true → a ≡ true
first true b e = refl
first false b e = absurd cc

pub second : (a b : Bool) → (a && b) ≡ true → b ≡ true
second true b e = e
second false b e = absurd cc

pub both : (a b : Bool) → a ≡ true → b ≡ true → (a && b) ≡ true
both a b p q = rw (p, q) refl

pub is_true : (b : Bool) → T b → b ≡ true
is_true true h = refl
is_true false h = absurd h

from_true : (b : Bool) → b ≡ true → T b
from_true b e = subst T (sym e) tt

-- ---- one order

module _ {K : Type 0} (R : K → K → Ordering) where
  abbrev pub Below : K → List K → Type 0
  Below x ks = below_all R x (marked ks) ≡ true

  abbrev pub Sorted : List K → Type 0
  Sorted ks = is_sorted R (marked ks) ≡ true

  abbrev pub among : K → List K → Bool
  among q ks = list_any (eq_by_cmp R q) ks

  marked_keys : (es : List (K × Unit {0})) → marked (map (λ e. e.0) es) ≡ es
  marked_keys [] = refl
  marked_keys (e ∷ es) = ap (λ (r : List (K × Unit {0})). e ∷ r) (marked_keys es)

  keys_marked : (ks : List K) → map (λ (e : K × Unit {0}). e.0) (marked ks) ≡ ks
  keys_marked [] = refl
  keys_marked (k ∷ ks) = ap (λ (r : List K). k ∷ r) (keys_marked ks)

  pub sorted_unique_is_sorted : (ks : List K) → Sorted (sorted_unique R ks)
  sorted_unique_is_sorted ks = ap (is_sorted R) (marked_keys (entries (from_entries {R = R} (marked ks)))) ∙ is_true _ (entries_sorted (from_entries {R = R} (marked ks)))

  found_by : (q : K) (ks : List K) → is_some (find R q (marked ks)) ≡ among q ks
  found_by q ks = is_some-find R q (marked ks) ∙ ap (list_any (eq_by_cmp R q)) (keys_marked ks)

  pub sorted_unique_among : IsTotalOrder R → (q : K) (ks : List K) → among q (sorted_unique R ks) ≡ among q ks
  sorted_unique_among total q ks = sym (contains_key-keys (from_entries {R = R} (marked ks)) q) ∙ ap is_some (get-from_entries total (marked ks) q) ∙ found_by q ks

  unit_some : (a b : Option (Unit {0})) → is_some a ≡ is_some b → a ≡ b
  unit_some None None e = refl
  unit_some (Some x) (Some y) e = refl
  unit_some None (Some y) e = absurd cc
  unit_some (Some x) None e = absurd cc

  -- a sorted list with the same values is that order of them
  pub sorted_is : IsTotalOrder R → IsAntisymmetric R → (ls ks : List K) → Sorted ls → ((q : K) → among q ls ≡ among q ks) → sorted_unique R ks ≡ ls
  sorted_is total apart ls ks up same =
      let sorted : T (is_sorted R (marked ls)) = from_true _ up in
      let maps : from_entries {R = R} (marked ks) ≡ from_sorted {R = R} (marked ls) = same_map total apart _ _ (λ q.
      unit_some _ _ (ap is_some (get-from_entries total (marked ks) q) ∙ found_by q ks ∙ sym (same q) ∙ sym (found_by q ls) ∙ sym (ap is_some (get-from_sorted R (marked ls) q sorted)))) in
      ap (λ (m : FinMap R (Unit {0})). keys m) maps ∙ ap (map (λ (e : K × Unit {0}). e.0)) (entries-from_sorted R (marked ls) sorted) ∙ keys_marked ls

  below_append : (x : K) (ks ls : List K) → Below x ks → Below x ls → Below x (ks ++ ls)
  below_append x [] ls h k = k
  below_append x (y ∷ ks) ls h k = both _ _ (first _ _ h) (below_append x ks ls (second _ _ h) k)

-- ---- entries

pub entry_total : IsTotalOrder entry_cmp
entry_total = then_total (on_total (λ (e : Entry). e.0) path_total) (on_total (λ (e : Entry). e.1) nat_list_cmp_total)

bytes_apart : IsAntisymmetric byte_cmp
bytes_apart = slice_cmp-IsAntisymmetric nat_cmp-IsAntisymmetric

tied_parts : (a b : Ordering) → ordering_then a b ≡ Equal → (a ≡ Equal) × (b ≡ Equal)
tied_parts Less b e = absurd cc
tied_parts Equal b e = (refl, e)
tied_parts Greater b e = absurd cc

pub entry_apart : IsAntisymmetric entry_cmp
entry_apart a b e =
    let p = tied_parts (path_cmp a.0 b.0) (byte_cmp a.1 b.1) e in
    λ i. (path_same a.0 b.0 p.0 i, bytes_apart a.1 b.1 p.1 i)

abbrev pub in_dir : List ℕ → List (List ℕ) → List Entry
in_dir dir names = map (λ name. (dir, name)) names

abbrev pub listed : List (List ℕ) → List (List ℕ) → List Entry
listed paths dirs = flat_map (λ dir. in_dir dir (names_in paths dir)) dirs

-- ---- they are sorted

below_here : (dir name : List ℕ) (names : List (List ℕ)) → Below byte_cmp name names → Below entry_cmp (dir, name) (in_dir dir names)
below_here dir name [] h = refl
below_here dir name (next ∷ names) h =
    both _ _ (ap (λ (o : Ordering). is_lt (ordering_then o (byte_cmp name next))) (tied_itself path_total dir) ∙ first _ _ h) (below_here dir name names (second _ _ h))

less_then : (a b : Ordering) → is_lt a ≡ true → is_lt (ordering_then a b) ≡ true
less_then Less b e = refl
less_then Equal b e = absurd cc
less_then Greater b e = absurd cc

below_there : (dir name other : List ℕ) (names : List (List ℕ)) → is_lt (path_cmp dir other) ≡ true → Below entry_cmp (dir, name) (in_dir other names)
below_there dir name other [] h = refl
below_there dir name other (next ∷ names) h = both _ _ (less_then (path_cmp dir other) (byte_cmp name next) h) (below_there dir name other names h)

below_later : (paths : List (List ℕ)) (dir name : List ℕ) (dirs : List (List ℕ)) → Below path_cmp dir dirs → Below entry_cmp (dir, name) (listed paths dirs)
below_later paths dir name [] h = refl
below_later paths dir name (next ∷ dirs) h =
    below_append entry_cmp (dir, name) (in_dir next (names_in paths next)) (listed paths dirs) (below_there dir name next (names_in paths next) (first _ _ h)) (below_later paths dir name dirs (second _ _ h))

sorted_block : (dir : List ℕ) (names : List (List ℕ)) (rest : List Entry) → Sorted byte_cmp names → ((name : List ℕ) → Below entry_cmp (dir, name) rest) → Sorted entry_cmp rest → Sorted entry_cmp (in_dir dir names ++ rest)
sorted_block dir [] rest up below h = h
sorted_block dir (name ∷ names) rest up below h =
    both _ _ (below_append entry_cmp (dir, name) (in_dir dir names) rest (below_here dir name names (first _ _ up)) (below name)) (sorted_block dir names rest (second _ _ up) below h)

pub sorted_listed : (paths dirs : List (List ℕ)) → Sorted path_cmp dirs → Sorted entry_cmp (listed paths dirs)
sorted_listed paths [] up = refl
sorted_listed paths (dir ∷ dirs) up =
    sorted_block dir (names_in paths dir) (listed paths dirs) (sorted_unique_is_sorted byte_cmp (map base_of (filter (λ path. bytes_eq (parent_of path) dir) paths))) (λ name. below_later paths dir name dirs (first _ _ up)) (sorted_listed paths dirs (second _ _ up))

-- ---- they are those of the list

any_append : {A : Type 0} (p : A → Bool) (xs ys : List A) → list_any p (xs ++ ys) ≡ (list_any p xs || list_any p ys)
any_append p [] ys = refl
any_append p (x ∷ xs) ys = ap (λ (b : Bool). p x || b) (any_append p xs ys) ∙ or_again (p x) (list_any p xs) (list_any p ys)
  where
    or_again : (a b c : Bool) → (a || (b || c)) ≡ ((a || b) || c)
    or_again true b c = refl
    or_again false b c = refl

pub any_map : {A B : Type 0} (p : B → Bool) (f : A → B) (xs : List A) → list_any p (map f xs) ≡ list_any (λ x. p (f x)) xs
any_map p f [] = refl
any_map p f (x ∷ xs) = ap (λ (b : Bool). p (f x) || b) (any_map p f xs)

pub any_same : {A : Type 0} (p q : A → Bool) → ((x : A) → p x ≡ q x) → (xs : List A) → list_any p xs ≡ list_any q xs
any_same p q same [] = refl
any_same p q same (x ∷ xs) = λ i. same x i || any_same p q same xs i

any_and : {A : Type 0} (a : Bool) (p : A → Bool) (xs : List A) → list_any (λ x. a && p x) xs ≡ (a && list_any p xs)
any_and true p xs = refl
any_and false p [] = refl
any_and false p (x ∷ xs) = any_and false p xs

abbrev is_dir : List ℕ → List ℕ → Bool
is_dir d dir = eq_by_cmp path_cmp d dir

abbrev is_base : List ℕ → List ℕ → Bool
is_base n name = eq_by_cmp byte_cmp n name

entry_is : (d n dir name : List ℕ) → eq_by_cmp entry_cmp (d, n) (dir, name) ≡ (is_dir d dir && is_base n name)
entry_is d n dir name = sym (tied_then (path_cmp d dir) (byte_cmp n name))

among_block : (d n dir : List ℕ) (names : List (List ℕ)) → among entry_cmp (d, n) (in_dir dir names) ≡ (is_dir d dir && among byte_cmp n names)
among_block d n dir names =
    any_map (eq_by_cmp entry_cmp (d, n)) (λ name. (dir, name)) names ∙ any_same _ (λ name. is_dir d dir && is_base n name) (entry_is d n dir) names ∙ any_and (is_dir d dir) (is_base n) names

here_by : (f : List ℕ → Bool) (d dir : List ℕ) (b : Bool) → is_dir d dir ≡ b → (b && f dir) ≡ (b && f d)
here_by f d dir true e = ap f (sym (path_same d dir ((Equal-is (path_cmp d dir)).0 e)))
here_by f d dir false e = refl

or_and : (a b c : Bool) → ((a && c) || (b && c)) ≡ ((a || b) && c)
or_and true true true = refl
or_and true true false = refl
or_and true false true = refl
or_and true false false = refl
or_and false true c = refl
or_and false false c = refl

pub among_listed : (paths : List (List ℕ)) (d n : List ℕ) (dirs : List (List ℕ)) → among entry_cmp (d, n) (listed paths dirs) ≡ (among path_cmp d dirs && among byte_cmp n (names_in paths d))
among_listed paths d n [] = refl
among_listed paths d n (dir ∷ dirs) =
    any_append (eq_by_cmp entry_cmp (d, n)) (in_dir dir (names_in paths dir)) (listed paths dirs)
    ∙ (λ i. (among_block d n dir (names_in paths dir) ∙ here_by (λ x. among byte_cmp n (names_in paths x)) d dir (is_dir d dir) refl) i || among_listed paths d n dirs i)
    ∙ or_and (is_dir d dir) (among path_cmp d dirs) (among byte_cmp n (names_in paths d))

pub same_dir : (path d : List ℕ) → bytes_eq (parent_of path) d ≡ is_dir d (parent_of path)
same_dir path d = both_ways _ _
    (λ e. (Equal-is (path_cmp d (parent_of path))).1 (ap (λ (x : List ℕ). path_cmp d x) ((bytes_eq-Decides (parent_of path) d).0 e) ∙ tied_itself path_total d))
    (λ e. (bytes_eq-Decides (parent_of path) d).1 (sym (path_same d (parent_of path) ((Equal-is (path_cmp d (parent_of path))).0 e))))

filter_any : {A : Type 0} (p : A → Bool) (b : Bool) (x : A) (xs : List A) (more : Bool) → list_any p xs ≡ more → list_any p (cond b (x ∷ xs) xs) ≡ ((b && p x) || more)
filter_any p true x xs more e = ap (λ (c : Bool). p x || c) e
filter_any p false x xs more e = e

pub any_filter : {A : Type 0} (p test : A → Bool) (xs : List A) → list_any p (filter test xs) ≡ list_any (λ x. test x && p x) xs
any_filter p test [] = refl
any_filter p test (x ∷ xs) = filter_any p (test x) x (filter test xs) (list_any (λ x. test x && p x) xs) (any_filter p test xs)

and_false : (a : Bool) → (a && false) ≡ false
and_false true = refl
and_false false = refl

absorb : {A : Type 0} (a b : A → Bool) (xs : List A) → (list_any a xs && list_any (λ x. a x && b x) xs) ≡ list_any (λ x. a x && b x) xs
absorb a b xs = by (list_any (λ x. a x && b x) xs) refl
  where
    some : (ys : List _) → list_any (λ x. a x && b x) ys ≡ true → list_any a ys ≡ true
    some [] e = e
    some (y ∷ ys) e = step (a y) (b y) (list_any a ys) (list_any (λ x. a x && b x) ys) (some ys) e
      where
        step : (p q r s : Bool) → (s ≡ true → r ≡ true) → ((p && q) || s) ≡ true → (p || r) ≡ true
        step true q r s f e = refl
        step false q r s f e = f e

    by : (c : Bool) → list_any (λ x. a x && b x) xs ≡ c → (list_any a xs && c) ≡ c
    by true e = rw (some xs e) refl
    by false e = and_false (list_any a xs)

pub among_paths : (paths : List (List ℕ)) (d n : List ℕ) → (among path_cmp d (parents paths) && among byte_cmp n (names_in paths d)) ≡ among entry_cmp (d, n) (map entry_of paths)
among_paths paths d n =
    let a : List ℕ → Bool = λ path. is_dir d (parent_of path) in
    let b : List ℕ → Bool = λ path. is_base n (base_of path) in
    let dirs : among path_cmp d (parents paths) ≡ list_any a paths = sorted_unique_among path_cmp path_total d (map parent_of paths) ∙ any_map (is_dir d) parent_of paths in
    let names : among byte_cmp n (names_in paths d) ≡ list_any (λ path. a path && b path) paths =
    sorted_unique_among byte_cmp nat_list_cmp_total n (map base_of (filter (λ path. bytes_eq (parent_of path) d) paths))
    ∙ any_map (is_base n) base_of (filter (λ path. bytes_eq (parent_of path) d) paths)
    ∙ any_filter b (λ path. bytes_eq (parent_of path) d) paths
    ∙ any_same _ (λ path. a path && b path) (λ path. ap (λ (c : Bool). c && b path) (same_dir path d)) paths in
    (λ i. dirs i && names i) ∙ absorb a b paths
    ∙ sym (any_map (eq_by_cmp entry_cmp (d, n)) entry_of paths ∙ any_same _ (λ path. a path && b path) (λ path. entry_is d n (parent_of path) (base_of path)) paths)

-- ---- so they are the same paths

block_listed : (dir : List ℕ) (names : List (List ℕ)) (rest : List Entry) (more : List (List ℕ)) → map entry_path rest ≡ more → map entry_path (in_dir dir names ++ rest) ≡ map (joined dir) names ++ more
block_listed dir [] rest more e = e
block_listed dir (name ∷ names) rest more e = ap (λ (r : List (List ℕ)). joined dir name ∷ r) (block_listed dir names rest more e)

paths_listed : (paths dirs : List (List ℕ)) → map entry_path (listed paths dirs) ≡ block_paths paths dirs
paths_listed paths [] = refl
paths_listed paths (dir ∷ dirs) = block_listed dir (names_in paths dir) (listed paths dirs) (block_paths paths dirs) (paths_listed paths dirs)

-- the entries in order are those of each directory, one directory after the other
pub entries_listed : (paths : List (List ℕ)) → entries_of paths ≡ listed paths (parents paths)
entries_listed paths =
    sorted_is entry_cmp entry_total entry_apart (listed paths (parents paths)) (map entry_of paths) (sorted_listed paths (parents paths) (sorted_unique_is_sorted path_cmp (map parent_of paths)))
    (λ q. among_listed paths q.0 q.1 (parents paths) ∙ among_paths paths q.0 q.1)

pub by_directory_is : (paths : List (List ℕ)) → block_paths paths (parents paths) ≡ by_directory paths
by_directory_is paths = sym (paths_listed paths (parents paths)) ∙ ap (map entry_path) (sym (entries_listed paths))
