-- The names of a directory, one after another.
use Rattle.std.proofs.Common.{◌≡◌, ℕ, zero, suc, ◌+◌, ◌≤◌, ◌<◌, Bool, true, false, List, [], ◌∷◌, ◌++◌, length, map, Option, Some, None, Ok, Err, IsTrue, refl, sym, ap, ◌∙◌, subst, inl, inr, arith, length-append, Less, Equal, Greater, nat_cmp, is_lt, Ordering}
use Rattle.std.specs.Prelude.{◌&&◌, nat_le, if◌then◌else◌, slice_get, IsSomeAnd}
use Rattle.std.specs.List.{list_all}
use Rattle.std.specs.Cmp.Lexicographic.{slice_cmp}
use Rattle.std.specs.FinMap.{is_sorted}
use Rattle.std.specs.FinMap.Entries.{below_all}
use Rattle.std.specs.Prelude.{Result, IsErr}
use Rattle.std.specs.declared.alloc.AllocError.{AllocError}
use Rattle.dir_reuse.specs.declared.naming.Names.{Names}
use Rattle.std.proofs.lemmas.Bool.{cases_Bool, both_ways, and_parts, and_from, leb-true, le-leb}
use Rattle.std.proofs.lemmas.Cmp.{nat_list_cmp_total}
use Rattle.std.proofs.lemmas.List.Folds.{list_all-append}
use Rattle.path_order.specs.declared.kind.Kind.{Kind}
use Rattle.path_order.specs.NameList.{Listed}
use Rattle.path_order.specs.Names.{is_name}
use Rattle.byte_feed.specs.Front.{Window, spelling}
use Rattle.byte_feed.specs.Feed.{FeedState, window}
use Rattle.byte_feed.specs.declared.damage.DbFault.{DbFault}
use Rattle.byte_feed.specs.declared.damage.DbFault.TheVariants as faults
use Rattle.byte_feed.specs.Endings.{Ending, is_read_fault}
use Rattle.byte_feed.specs.Paths.{Rest, rest_of, after_item, no_items}
use Rattle.byte_feed.specs.Calls.{MovedKnown, EndsKnown}
use Rattle.byte_feed.proofs.Rests.{moved_then, moved_same}
use Rattle.mlocate_db.specs.Items.{Head, Item, EntryItem, EndItem, spell, mlocate}
use Rattle.mlocate_db.specs.Items.{in_directory}
use Rattle.mlocate_db.proofs.ItemSteps.{joined_is}
use Rattle.mlocate_db.specs.Reader.{ReaderState, is_live, items_left}
use Rattle.tree_scan.specs.Admitted.{fits_in}
use Rattle.tree_scan.specs.Records.{Record}
use Rattle.dir_reuse.specs.Usable.{record_of, has_end, are_usable, leading_entries, head_paths}
use Rattle.dir_reuse.specs.Coming.{size, size_behind, Placed, placed_at, placed_in, Coming, coming_in, nothing, head_of, coming, coming_at, Skips, StopsKnown}
use Rattle.dir_reuse.specs.Naming.{entries_of, own, with_own, TakenKnown, NamesKnown, refusal_of}
use Rattle.dir_reuse.proofs.Passing.{place_moves, live_is}

-- these items, and then the rest
abbrev pub after_items : List Item → Rest mlocate → Rest mlocate
after_items items r = record { items = items ++ r.items; ending = r.ending; place = r.place }

-- ---- the items of a directory

pub first_names : (xs : Listed) (is : List Item) → leading_entries (entries_of xs ++ is) ≡ xs ++ leading_entries is
first_names [] is = refl
first_names (x ∷ xs) is = ap (λ (l : Listed). x ∷ l) (first_names xs is)

pub closed_behind : (xs : Listed) (is : List Item) → has_end (entries_of xs ++ is) ≡ has_end is
closed_behind [] is = refl
closed_behind (x ∷ xs) is = closed_behind xs is

pub heads_behind : (xs : Listed) (is : List Item) → head_paths (entries_of xs ++ is) ≡ head_paths is
heads_behind [] is = refl
heads_behind (x ∷ xs) is = heads_behind xs is

pub sizes : List Item → ℕ
sizes [] = 0
sizes (i ∷ is) = size i + sizes is

pub placed_behind : (version place : ℕ) (xs : Listed) (is : List Item) → placed_in version place (entries_of xs ++ is) ≡ placed_in version (place + sizes (entries_of xs)) is
unfolding sizes
placed_behind version place [] is = ap (λ (p : ℕ). placed_in version p is) (omega arith)
placed_behind version place (x ∷ xs) is =
    let at : place + size (EntryItem x.1 x.0) + sizes (entries_of xs) ≡ place + (size (EntryItem x.1 x.0) + sizes (entries_of xs)) = omega arith in
    placed_behind version (place + size (EntryItem x.1 x.0)) xs is ∙ ap (λ (p : ℕ). placed_in version p is) at

pub size_to_end : (xs : Listed) (is : List Item) → size_behind (entries_of xs ++ EndItem ∷ is) ≡ sizes (entries_of xs) + size EndItem
unfolding sizes
size_to_end [] is = omega arith
size_to_end (x ∷ xs) is = omega (arith, size_to_end xs is)

pub sizes_fit : (xs : Listed) (is : List Item) → sizes (entries_of xs) ≤ size_behind (entries_of xs ++ is)
unfolding sizes
sizes_fit [] is = omega arith
sizes_fit (x ∷ xs) is = omega (arith, sizes_fit xs is)

spelled : (is : List Item) → length (spelling mlocate is) ≡ sizes is
unfolding sizes size
spelled [] = refl
spelled (i ∷ is) = length-append (spell i) (spelling mlocate is) ∙ omega (arith, spelled is)

added : (xs ys : List Item) → sizes (xs ++ ys) ≡ sizes xs + sizes ys
unfolding sizes
added [] ys = omega arith
added (x ∷ xs) ys = omega (arith, added xs ys)

-- the place moves by their sizes
pub places_move : (r r' : ReaderState) (w w' : Window) (is : List Item) → items_left r w ≡ after_items is (items_left r' w') → r.place + sizes is ≡ r'.place
unfolding rest_of
places_move r r' w w' is e =
    let items : List Item = (items_left r w).items in
    let items' : List Item = (items_left r' w').items in
    let same : items ≡ is ++ items' = ap (λ (x : Rest mlocate). x.items) e in
    let ends : r.place + length (spelling mlocate items) ≡ r'.place + length (spelling mlocate items') = ap (λ (x : Rest mlocate). x.place) e in
    let more : length (spelling mlocate items) ≡ sizes is + sizes items' = ap (λ (l : List Item). length (spelling mlocate l)) same ∙ spelled (is ++ items') ∙ added is items' in
    omega (arith, ends, more, spelled items')

-- ---- a directory that is passed

-- what is to come behind the names of a directory
pub behind_names : (r r' : ReaderState) (w w' : Window) (xs : Listed) → is_live r'.stage ≡ true → r'.version ≡ r.version → items_left r w ≡ after_items (entries_of xs) (items_left r' w') → coming_at r w ≡ with_own (own r w) r.path (coming r' w')
behind_names r r' w w' xs live version e =
    let is : List Item = (items_left r' w').items in
    let same : (items_left r w).items ≡ entries_of xs ++ is = ap (λ (x : Rest mlocate). x.items) e in
    let blocks : placed_in r.version r.place (items_left r w).items ≡ placed_in r'.version r'.place is =
    ap (placed_in r.version r.place) same ∙ placed_behind r.version r.place xs is ∙ ap (λ (p : ℕ). placed_in r.version p is) (places_move r r' w w' (entries_of xs) e) ∙ ap (λ (v : ℕ). placed_in v r'.place is) (sym version) in
    let heads : head_paths (items_left r w).items ≡ head_paths is = ap head_paths same ∙ heads_behind xs is in
    (λ i. let c : Coming = record { blocks = own r w ++ blocks i; heads = r.path ∷ heads i } in c) ∙ ap (with_own (own r w) r.path) (sym (live_is r' w' live))

own_by : (version : ℕ) (head : Head) (at : ℕ) (names : Listed) (b : Bool) → b ≡ false → map (λ (r : Record). let q : Placed = (r, at) in q) (if b then record_of version head names ∷ [] else []) ≡ []
own_by version head at names b e = ap (λ (c : Bool). map (λ (r : Record). let q : Placed = (r, at) in q) (if c then record_of version head names ∷ [] else [])) e

own_none : (r : ReaderState) (w : Window) → (has_end (items_left r w).items && are_usable (leading_entries (items_left r w).items)) ≡ false → own r w ≡ []
own_none r w e = own_by r.version (head_of r) (r.place + size_behind (items_left r w).items) (leading_entries (items_left r w).items) _ e

own_some : (r : ReaderState) (w : Window) (xs : Listed) (is : List Item) (at : ℕ) → (items_left r w).items ≡ entries_of xs ++ EndItem ∷ is → are_usable xs ≡ true → r.place + (sizes (entries_of xs) + size EndItem) ≡ at
    → own r w ≡ (record_of r.version (head_of r) xs, at) ∷ []
own_some r w xs is at same usable ends = ap (placed_at r.version r.place (head_of r)) same ∙ by _ _ _ (closed_behind xs (EndItem ∷ is)) (first_names xs (EndItem ∷ is) ∙ nil xs) (ap (λ (n : ℕ). r.place + n) (size_to_end xs is) ∙ ends)
  where
    nil : (l : Listed) → l ++ [] ≡ l
    nil [] = refl
    nil (x ∷ l) = ap (λ (t : Listed). x ∷ t) (nil l)

    by : (b : Bool) (names : Listed) (n : ℕ) → b ≡ true → names ≡ xs → n ≡ at → map (λ (q : Record). let t : Placed = (q, n) in t) (if b && are_usable names then record_of r.version (head_of r) names ∷ [] else []) ≡ (record_of r.version (head_of r) xs, at) ∷ []
    by b names n closed are end = rw (closed, are, usable, end) refl

-- ---- a name more

-- a name comes after the last of these
follows : Listed → List ℕ → Bool
follows [] name = true
follows (x ∷ []) name = is_lt (slice_cmp nat_cmp x.0 name)
follows (x ∷ y ∷ xs) name = follows (y ∷ xs) name

less_is : (r : Ordering) → is_lt r ≡ true → r ≡ Less
less_is Less h = refl
less_is Equal h = absurd cc
less_is Greater h = absurd cc

abbrev Less_than : List ℕ → List ℕ → Type 0
Less_than a b = slice_cmp nat_cmp a b ≡ Less

abbrev sorted : Listed → Bool
sorted names = is_sorted (slice_cmp nat_cmp) names

head_less : (y : List ℕ × Kind) (xs : Listed) (name : List ℕ) → sorted (y ∷ xs) ≡ true → follows (y ∷ xs) name ≡ true → Less_than y.0 name
unfolding follows
head_less y [] name s f = less_is _ f
head_less y (z ∷ xs) name s f =
    let p = and_parts (below_all (slice_cmp nat_cmp) y.0 (z ∷ xs)) (sorted (z ∷ xs)) s in
    nat_list_cmp_total.trans y.0 z.0 name (less_is _ (and_parts (is_lt (slice_cmp nat_cmp y.0 z.0)) _ p.0).0) (head_less z xs name p.1 f)

below_push : (k : List ℕ) (xs : Listed) (e : List ℕ × Kind) → below_all (slice_cmp nat_cmp) k xs ≡ true → Less_than k e.0 → below_all (slice_cmp nat_cmp) k (xs ++ e ∷ []) ≡ true
below_push k [] e b less = rw less refl
below_push k (x ∷ xs) e b less = let p = and_parts (is_lt (slice_cmp nat_cmp k x.0)) (below_all (slice_cmp nat_cmp) k xs) b in and_from _ _ p.0 (below_push k xs e p.1 less)

and_none : (b c : Bool) → c ≡ false → (b && c) ≡ false
and_none true c e = e
and_none false c e = refl

sorted_push : (xs : Listed) (e : List ℕ × Kind) → sorted xs ≡ true → sorted (xs ++ e ∷ []) ≡ follows xs e.0
unfolding follows
sorted_push [] e s = refl
sorted_push (x ∷ []) e s = by (is_lt (slice_cmp nat_cmp x.0 e.0))
  where
    by : (b : Bool) → ((b && true) && true) ≡ b
    by true = refl
    by false = refl
sorted_push (x ∷ y ∷ xs) e s =
    let p = and_parts (below_all (slice_cmp nat_cmp) x.0 (y ∷ xs)) (sorted (y ∷ xs)) s in
    elim (cases_Bool (follows (y ∷ xs) e.0)) [
      | inl after ↦
          let first : Less_than x.0 e.0 = nat_list_cmp_total.trans x.0 y.0 e.0 (less_is _ (and_parts (is_lt (slice_cmp nat_cmp x.0 y.0)) _ p.0).0) (head_less y xs e.0 p.1 after) in
          and_from _ _ (below_push x.0 (y ∷ xs) e p.0 first) (sorted_push (y ∷ xs) e p.1 ∙ after) ∙ sym after
      | inr other ↦ and_none _ _ (sorted_push (y ∷ xs) e p.1 ∙ other) ∙ sym other
    ]

last_follows : (xs : Listed) (at : ℕ) (last name : List ℕ) → at + 1 ≡ length xs → IsSomeAnd (slice_get xs at) (λ e. last ≡ e.0) → follows xs name ≡ is_lt (slice_cmp nat_cmp last name)
unfolding follows
last_follows [] at last name e h = absurd (omega arith)
last_follows (x ∷ []) zero last name e h = ap (λ (k : List ℕ). is_lt (slice_cmp nat_cmp k name)) (sym h)
last_follows (x ∷ []) (suc at) last name e h = absurd (omega arith)
last_follows (x ∷ y ∷ xs) zero last name e h = absurd (omega arith)
last_follows (x ∷ y ∷ xs) (suc at) last name e h = last_follows (y ∷ xs) at last name (omega arith) h

all_push : (xs : Listed) (e : List ℕ × Kind) → list_all (λ x. is_name x.0) xs ≡ true → is_name e.0 ≡ true → list_all (λ x. is_name x.0) (xs ++ e ∷ []) ≡ true
all_push xs e h k = list_all-append (λ (x : List ℕ × Kind). is_name x.0) xs (e ∷ []) ∙ and_from _ _ h (and_from _ _ k refl)

parts : (xs : Listed) → are_usable xs ≡ true → (list_all (λ x. is_name x.0) xs ≡ true) × (sorted xs ≡ true) × (length xs ≤ 16777216)
parts xs h =
    let p = and_parts (list_all (λ x. is_name x.0) xs && sorted xs) (nat_le (length xs) 16777216) h in
    let q = and_parts (list_all (λ x. is_name x.0) xs) (sorted xs) p.0 in
    (q.0, q.1, leb-true (length xs) 16777216 p.1)

-- a name that may follow
pub usable_push : (xs : Listed) (at : ℕ) (last name : List ℕ) (kind : Kind) → are_usable xs ≡ true → length xs < 16777216 → is_name name ≡ true → at + 1 ≡ length xs → IsSomeAnd (slice_get xs at) (λ e. last ≡ e.0)
    → are_usable (xs ++ (name, kind) ∷ []) ≡ is_lt (slice_cmp nat_cmp last name)
usable_push xs at last name kind h few good e known =
    let p = parts xs h in
    let short : nat_le (length (xs ++ (name, kind) ∷ [])) 16777216 ≡ true = le-leb _ _ (omega (arith, few, length-append xs ((name, kind) ∷ []))) in
    let after : sorted (xs ++ (name, kind) ∷ []) ≡ is_lt (slice_cmp nat_cmp last name) = sorted_push xs (name, kind) p.1 ∙ last_follows xs at last name e known in
    rw (all_push xs (name, kind) p.0 good, after, short) (by (is_lt (slice_cmp nat_cmp last name)))
  where
    by : (b : Bool) → (true && b && true) ≡ b
    by true = refl
    by false = refl

-- ---- a first part of usable names

below_front : (k : List ℕ) (xs ys : Listed) → below_all (slice_cmp nat_cmp) k (xs ++ ys) ≡ true → below_all (slice_cmp nat_cmp) k xs ≡ true
below_front k [] ys h = refl
below_front k (x ∷ xs) ys h = let p = and_parts (is_lt (slice_cmp nat_cmp k x.0)) (below_all (slice_cmp nat_cmp) k (xs ++ ys)) h in and_from _ _ p.0 (below_front k xs ys p.1)

sorted_front : (xs ys : Listed) → sorted (xs ++ ys) ≡ true → sorted xs ≡ true
sorted_front [] ys h = refl
sorted_front (x ∷ xs) ys h = let p = and_parts (below_all (slice_cmp nat_cmp) x.0 (xs ++ ys)) (sorted (xs ++ ys)) h in and_from _ _ (below_front x.0 xs ys p.0) (sorted_front xs ys p.1)

all_front : (xs ys : Listed) → list_all (λ x. is_name x.0) (xs ++ ys) ≡ true → list_all (λ x. is_name x.0) xs ≡ true
all_front [] ys h = refl
all_front (x ∷ xs) ys h = let p = and_parts (is_name x.0) (list_all (λ x. is_name x.0) (xs ++ ys)) h in and_from _ _ p.0 (all_front xs ys p.1)

usable_front : (xs ys : Listed) → are_usable (xs ++ ys) ≡ true → are_usable xs ≡ true
usable_front xs ys h =
    let p = parts (xs ++ ys) h in
    and_from _ _ (and_from _ _ (all_front xs ys p.0) (sorted_front xs ys p.1)) (le-leb _ _ (omega (arith, p.2, length-append xs ys)))

unusable : (xs ys : Listed) → are_usable xs ≡ false → are_usable (xs ++ ys) ≡ false
unusable xs ys e = elim (cases_Bool (are_usable (xs ++ ys))) [
  | inl good ↦ absurd (both_ways (are_usable xs) e (usable_front xs ys good))
  | inr bad ↦ bad
]

pub last_name : (xs : Listed) (name : List ℕ) (kind : Kind) → are_usable (xs ++ (name, kind) ∷ []) ≡ true → is_name name ≡ true
last_name [] name kind h = let p = parts ((name, kind) ∷ []) h in (and_parts (is_name name) true p.0).0
last_name (x ∷ xs) name kind h =
    let p = parts (x ∷ (xs ++ (name, kind) ∷ [])) h in
    by xs (and_parts (is_name x.0) (list_all (λ y. is_name y.0) (xs ++ (name, kind) ∷ [])) p.0).1
  where
    by : (ys : Listed) → list_all (λ y. is_name y.0) (ys ++ (name, kind) ∷ []) ≡ true → is_name name ≡ true
    by [] h = (and_parts (is_name name) true h).0
    by (y ∷ ys) h = by ys (and_parts (is_name y.0) (list_all (λ z. is_name z.0) (ys ++ (name, kind) ∷ [])) h).1

-- a name that was read fits its directory
pub name_fits : (path name p : List ℕ) → p ≡ in_directory path ++ name → length p ≤ 4096 → is_name name ≡ true → IsTrue (fits_in path name)
name_fits path name p e few good = and_from _ _ good (le-leb _ _ (omega (arith, ap length e, ap length (joined_is path name), few)))

-- ---- what the names come to

entries_push : (xs : Listed) (e : List ℕ × Kind) (is : List Item) → entries_of xs ++ (EntryItem e.1 e.0 ∷ is) ≡ entries_of (xs ++ e ∷ []) ++ is
entries_push [] e is = refl
entries_push (x ∷ xs) e is = ap (λ (l : List Item). EntryItem x.1 x.0 ∷ l) (entries_push xs e is)

pub one_more : (r0 r r' : ReaderState) (xs : Listed) (kind : Kind) (name : List ℕ) (f f' f'' : FeedState) (l l' l'' : Option (List ℕ)) → MovedKnown (items_left r0) (items_left r) (after_items (entries_of xs)) f l f' l'
    → MovedKnown (items_left r) (items_left r') (after_item mlocate (EntryItem kind name)) f' l' f'' l'' → MovedKnown (items_left r0) (items_left r') (after_items (entries_of (xs ++ (name, kind) ∷ []))) f l f'' l''
one_more r0 r r' xs kind name f f' f'' l l' l'' m step =
    moved_same (items_left r0) (items_left r') (λ x. after_items (entries_of xs) (after_item mlocate (EntryItem kind name) x)) (after_items (entries_of (xs ++ (name, kind) ∷ []))) f f'' l l''
    (λ x. ap (λ (is : List Item). let y : Rest mlocate = record { items = is; ending = x.ending; place = x.place } in y) (entries_push xs (name, kind) x.items))
    (moved_then (items_left r0) (items_left r) (items_left r') (after_items (entries_of xs)) (after_item mlocate (EntryItem kind name)) f f' f'' l l' l'' m step)

-- no memory was left behind these names
pub names_lost : (r0 r : ReaderState) (xs : Listed) (l l' : Option (List ℕ)) → is_live r.stage ≡ true → r.version ≡ r0.version → MovedKnown (items_left r0) (items_left r) (after_items (entries_of xs)) r0.feed l r.feed l'
    → TakenKnown (own r0) r0 l r l'
names_lost r0 r xs None l' live version m = tt
names_lost r0 r xs (Some a) None live version m = absurd m
names_lost r0 r xs (Some a) (Some b) live version m = behind_names r0 r _ _ xs live version m.whole

pub names_err : (r0 r : ReaderState) (l l' : Option (List ℕ)) (into : Listed) (result : Result Names AllocError) → IsErr result → TakenKnown (own r0) r0 l r l' → NamesKnown result r0 l r l' into
names_err r0 r l l' into (Ok x) h t = absurd cc
names_err r0 r l l' into (Err e) h t = t

bad_own : (r : ReaderState) (w : Window) (xs : Listed) (is : List Item) → (items_left r w).items ≡ entries_of xs ++ is → are_usable xs ≡ false → own r w ≡ []
bad_own r w xs is e bad = own_none r w (and_none _ _ (ap (λ (l : List Item). are_usable (leading_entries l)) e ∙ ap are_usable (first_names xs is) ∙ unusable xs (leading_entries is) bad))

-- these names are no record's
pub names_bad : (r0 r : ReaderState) (xs : Listed) (l l' : Option (List ℕ)) → is_live r.stage ≡ true → r.version ≡ r0.version → are_usable xs ≡ false → MovedKnown (items_left r0) (items_left r) (after_items (entries_of xs)) r0.feed l r.feed l'
    → TakenKnown (λ w. []) r0 l r l'
names_bad r0 r xs None l' live version bad m = tt
names_bad r0 r xs (Some a) None live version bad m = absurd m
names_bad r0 r xs (Some a) (Some b) live version bad m =
    behind_names r0 r _ _ xs live version m.whole
    ∙ ap (λ (mine : List Placed). with_own mine r0.path (coming r (window r.feed b))) (bad_own r0 (window r0.feed a) xs _ (ap (λ (x : Rest mlocate). x.items) m.whole) bad)

-- the directory has its end
pub names_whole : (r0 r r' : ReaderState) (xs : Listed) (l l' l'' : Option (List ℕ)) → is_live r'.stage ≡ true → r.version ≡ r0.version → r'.version ≡ r.version → are_usable xs ≡ true
    → MovedKnown (items_left r0) (items_left r) (after_items (entries_of xs)) r0.feed l r.feed l' → MovedKnown (items_left r) (items_left r') (after_item mlocate EndItem) r.feed l' r'.feed l''
    → TakenKnown (λ w. (record_of r0.version (head_of r0) xs, r'.place) ∷ []) r0 l r' l''
names_whole r0 r r' xs None l' l'' live version version' good m step = tt
names_whole r0 r r' xs (Some a) None l'' live version version' good m step = absurd m
names_whole r0 r r' xs (Some a) (Some b) None live version version' good m step = absurd step
names_whole r0 r r' xs (Some a) (Some b) (Some c) live version version' good m step =
    let w : Window = window r0.feed a in
    let w' : Window = window r.feed b in
    let w'' : Window = window r'.feed c in
    let is : List Item = (items_left r' w'').items in
    let at : r0.place + sizes (entries_of xs) ≡ r.place = places_move r0 r w w' (entries_of xs) m.whole in
    let at' : r.place + size EndItem ≡ r'.place = place_moves r r' w' w'' EndItem step.whole in
    let first : (items_left r w').items ≡ EndItem ∷ is = ap (λ (x : Rest mlocate). x.items) step.whole in
    let same : (items_left r0 w).items ≡ entries_of xs ++ EndItem ∷ is = ap (λ (x : Rest mlocate). x.items) m.whole ∙ ap (λ (l : List Item). entries_of xs ++ l) first in
    let blocks : placed_in r0.version r0.place (items_left r0 w).items ≡ placed_in r'.version r'.place is =
    ap (placed_in r0.version r0.place) same ∙ placed_behind r0.version r0.place xs (EndItem ∷ is)
    ∙ ap (λ (p : ℕ). placed_in r0.version (p + size EndItem) is) at ∙ ap (λ (p : ℕ). placed_in r0.version p is) at' ∙ ap (λ (v : ℕ). placed_in v r'.place is) (sym (version' ∙ version)) in
    let heads : head_paths (items_left r0 w).items ≡ head_paths is = ap head_paths same ∙ heads_behind xs (EndItem ∷ is) in
    let mine : own r0 w ≡ (record_of r0.version (head_of r0) xs, r'.place) ∷ [] = own_some r0 w xs is r'.place same good (omega (arith, at, at')) in
    (λ i. let c : Coming = record { blocks = mine i ++ blocks i; heads = r0.path ∷ heads i } in c) ∙ ap (with_own ((record_of r0.version (head_of r0) xs, r'.place) ∷ []) r0.path) (sym (live_is r' w'' live))

-- the directory has no end
bare_names : (r : ReaderState) (w : Window) (xs : Listed) (place : ℕ) (e : Ending) → items_left r w ≡ after_items (entries_of xs) (no_items mlocate place e) → coming_at r w ≡ with_own [] r.path nothing
bare_names r w xs place e k =
    let same : (items_left r w).items ≡ entries_of xs ++ [] = ap (λ (x : Rest mlocate). x.items) k in
    let blocks : placed_in r.version r.place (items_left r w).items ≡ [] = ap (placed_in r.version r.place) same ∙ placed_behind r.version r.place xs [] in
    let heads : head_paths (items_left r w).items ≡ [] = ap head_paths same ∙ heads_behind xs [] in
    let mine : own r w ≡ [] = own_none r w (open_end (has_end (items_left r w).items) _ (ap has_end same ∙ closed_behind xs [])) in
    λ i. let c : Coming = record { blocks = mine i ++ blocks i; heads = r.path ∷ heads i } in c
  where
    open_end : (b c : Bool) → b ≡ false → (b && c) ≡ false
    open_end b c is = ap (λ (x : Bool). x && c) is

ends_bare : (r0 r r' : ReaderState) (xs : Listed) (l l' l'' : Option (List ℕ)) (e : Ending) → is_read_fault e ≡ false → is_live r'.stage ≡ false → MovedKnown (items_left r0) (items_left r) (after_items (entries_of xs)) r0.feed l r.feed l'
    → EndsKnown (items_left r) (no_items mlocate r.place) r.feed l' l'' e → TakenKnown (λ w. []) r0 l r' l''
ends_bare r0 r r' xs None l' l'' e plain dead m q = tt
ends_bare r0 r r' xs (Some a) None l'' e plain dead m q = absurd m
ends_bare r0 r r' xs (Some a) (Some b) None e plain dead m q = absurd q
ends_bare r0 r r' xs (Some a) (Some b) (Some c) e plain dead m q =
    let bare : items_left r (window r.feed b) ≡ no_items mlocate r.place e = rw plain at q in
    bare_names r0 _ xs r.place e (m.whole ∙ ap (after_items (entries_of xs)) bare)
    ∙ ap (λ (x : Bool). with_own [] r0.path (if x then coming_in r'.version r'.place (items_left r' (window r'.feed c)).items else nothing)) (sym dead)

short_names : (dir : List ℕ) (r0 r : ReaderState) (xs : Listed) (l l' l'' : Option (List ℕ)) → MovedKnown (items_left r0) (items_left r) (after_items (entries_of xs)) r0.feed l r.feed l'
    → EndsKnown (items_left r) (no_items mlocate r.place) r.feed l' l'' (Err faults.ReadFault) → StopsKnown true dir (coming_at r0) r0.feed l l''
short_names dir r0 r xs None l' l'' m q = tt
short_names dir r0 r xs (Some a) None l'' m q = absurd m
short_names dir r0 r xs (Some a) (Some b) None m q = absurd q
short_names dir r0 r xs (Some a) (Some b) (Some c) m q =
    let on = m.goes_on q.goes_on in
    record {
      goes_on = on.0;
      fewer = omega (arith, on.1, q.fewer);
      came = subst (λ (x : Coming). Skips dir x nothing) (sym (bare_names r0 _ xs r.place q.ending (m.parts q.goes_on (length c) q.fewer ∙ ap (after_items (entries_of xs)) q.nothing))) (record { same = refl; some = λ r h. h; rise = λ h. refl });
    }

pub names_refused : (r0 r r' : ReaderState) (xs into : Listed) (l l' l'' : Option (List ℕ)) (fault : DbFault) → is_live r'.stage ≡ false → MovedKnown (items_left r0) (items_left r) (after_items (entries_of xs)) r0.feed l r.feed l'
    → EndsKnown (items_left r) (no_items mlocate r.place) r.feed l' l'' (Err fault) → NamesKnown (Ok (refusal_of fault)) r0 l r' l'' into
names_refused r0 r r' xs into l l' l'' faults.ReadFault dead m q = λ dir. short_names dir r0 r xs l l' l'' m q
names_refused r0 r r' xs into l l' l'' faults.NotADatabase dead m q = ends_bare r0 r r' xs l l' l'' (Err faults.NotADatabase) refl dead m q
names_refused r0 r r' xs into l l' l'' faults.TooLarge dead m q = ends_bare r0 r r' xs l l' l'' (Err faults.TooLarge) refl dead m q
names_refused r0 r r' xs into l l' l'' (faults.Damage d) dead m q = ends_bare r0 r r' xs l l' l'' (Err (faults.Damage d)) refl dead m q
