-- What is left of the records to come by each answer.
use Rattle.std.proofs.Common.{◌≡◌, ℕ, ◌+◌, Bool, true, false, not, List, [], ◌∷◌, ◌++◌, map, filter, Ok, Err, Contains, refl, sym, ap, ◌∙◌, subst, inl, inr, ◌⊎◌, arith, Less, Equal, Greater, is_lt, Ordering}
use Rattle.std.specs.Prelude.{◌&&◌, ◌||◌, ◌==◌, if◌then◌else◌}
use Rattle.std.specs.List.{list_all}
use Rattle.std.specs.Option.{option_map_or}
use Rattle.std.specs.Ordering.{ordering_reverse}
use Rattle.std.specs.Str.{bytes_eq}
use Rattle.std.specs.declared.alloc.AllocError.{AllocError}
use Rattle.std.proofs.lemmas.Bool.{cases_Bool, and_parts, and_from}
use Rattle.std.proofs.lemmas.List.Elements.{Contains-append_left, Contains-append_right, Contains-push, Contains-push_cases, Contains-append_cases}
use Rattle.std.proofs.lemmas.Cmp.{tied_itself}
use Rattle.std.proofs.lemmas.Slice.Eq.{bytes_eq-Decides}
use Rattle.path_order.specs.NameList.{Listed}
use Rattle.path_order.specs.Order.{path_cmp}
use Rattle.path_order.specs.Stamp.{Moment}
use Rattle.path_order.proofs.OrderLemmas.{path_total}
use Rattle.byte_feed.specs.Front.{Window}
use Rattle.mlocate_db.specs.Items.{Head, Item, HeadItem, EntryItem, EndItem, HeaderItem}
use Rattle.mlocate_db.specs.Reader.{ReaderState, is_live, items_left}
use Rattle.tree_scan.specs.Records.{Record, LeavesOf, bears, is_moment, is_zero, is_vouched}
use Rattle.dir_reuse.specs.Usable.{record_of, has_end, are_usable, leading_entries, head_paths, paths_rise, is_empty}
use Rattle.dir_reuse.specs.Coming.{size, size_behind, Placed, placed_in, Coming, coming_in, nothing, head_of, coming, coming_at, not_before, records_to_come, Skips}
use Rattle.dir_reuse.specs.Naming.{own, with_own}
use Rattle.dir_reuse.specs.Answering.{in_order, AnswersOf}

-- ---- members

in_cons : {X : Type 0} (x : X) (xs : List X) (y : X) → Contains (x ∷ xs) y → (x ≡ y) ⊎ Contains xs y
in_cons x xs y h = elim (Contains-append_cases (x ∷ []) xs y h) [
  | inl one ↦ elim (Contains-push_cases [] x y one) [
    | inl none ↦ absurd (omega (arith, none.1))
    | inr is ↦ inl is
  ]
  | inr rest ↦ inr rest
]

in_first : {X : Type 0} (x : X) (xs : List X) → Contains (x ∷ xs) x
in_first x xs = Contains-append_left (x ∷ []) xs x (Contains-push [] x)

in_rest : {X : Type 0} (x : X) (xs : List X) (y : X) → Contains xs y → Contains (x ∷ xs) y
in_rest x xs y h = Contains-append_right (x ∷ []) xs y h

in_none : {X : Type 0} (y : X) → Contains [] y → ⊥
in_none y h = omega (arith, h.1)

abbrev recs : List Placed → List Record
recs blocks = map (λ (b : Placed). b.0) blocks

-- ---- records that do not come before a path

before_itself : (x : List ℕ) → path_cmp x x ≡ Less → ⊥
before_itself x less = absurd (let z : Less ≡ Equal = sym less ∙ tied_itself path_total x in cc)

test_true : (dir : List ℕ) (r : Record) (e : ℕ) → path_cmp dir r.path ≡ Less → not_before dir (r, e) ≡ true
test_true dir r e less = by (path_cmp r.path dir) refl
  where
    by : (o : Ordering) → path_cmp r.path dir ≡ o → not (is_lt o) ≡ true
    by Less is = absurd (before_itself dir (path_total.trans dir r.path dir less is))
    by Equal is = refl
    by Greater is = refl

kept_by : (dir : List ℕ) (b : Placed) (rest : List Placed) (r : Record) (t : Bool) → not_before dir b ≡ t → Contains (recs (if t then b ∷ rest else rest)) r → Contains (b.0 ∷ recs rest) r
kept_by dir b rest r true e h = h
kept_by dir b rest r false e h = in_rest b.0 (recs rest) r h

from_kept : (dir : List ℕ) (blocks : List Placed) (r : Record) → Contains (recs (filter (not_before dir) blocks)) r → Contains (recs blocks) r
from_kept dir [] r h = h
from_kept dir (b ∷ blocks) r h = elim (in_cons b.0 (recs (filter (not_before dir) blocks)) r (kept_by dir b (filter (not_before dir) blocks) r (not_before dir b) refl h)) [
  | inl is ↦ subst (λ (x : Record). Contains (b.0 ∷ recs blocks) x) is (in_first b.0 (recs blocks))
  | inr rest ↦ in_rest b.0 (recs blocks) r (from_kept dir blocks r rest)
]

keep_one : (dir : List ℕ) (b : Placed) (rest : List Placed) (r : Record) (t : Bool) → Contains (recs rest) r → Contains (recs (if t then b ∷ rest else rest)) r
keep_one dir b rest r true h = in_rest b.0 (recs rest) r h
keep_one dir b rest r false h = h

-- each record whose path comes after it is kept
to_kept : (dir : List ℕ) (blocks : List Placed) (r : Record) → path_cmp dir r.path ≡ Less → Contains (recs blocks) r → Contains (recs (filter (not_before dir) blocks)) r
to_kept dir [] r less h = h
to_kept dir (b ∷ blocks) r less h = elim (in_cons b.0 (recs blocks) r h) [
  | inl is ↦ rw (test_true dir b.0 b.1 (subst (λ (x : Record). path_cmp dir x.path ≡ Less) (sym is) less)) (subst (λ (x : Record). Contains (b.0 ∷ recs (filter (not_before dir) blocks)) x) is (in_first b.0 _))
  | inr rest ↦ keep_one dir b (filter (not_before dir) blocks) r (not_before dir b) (to_kept dir blocks r less rest)
]

-- what comes after the path is left
pub left_later : (dir : List ℕ) (a b : Coming) (r : Record) → Skips dir a b → path_cmp dir r.path ≡ Less → Contains (records_to_come a) r → Contains (records_to_come b) r
left_later dir a b r s less h = from_kept dir b.blocks r (subst (λ (x : List Placed). Contains (recs x) r) s.same (to_kept dir a.blocks r less h))

-- ---- records that do not vouch

less_is : (o : Ordering) → is_lt o ≡ true → o ≡ Less
less_is Less e = refl
less_is Equal e = absurd cc
less_is Greater e = absurd cc

not_same : (a b : List ℕ) → path_cmp a b ≡ Less → bytes_eq a b ≡ false
not_same a b less = elim (cases_Bool (bytes_eq a b)) [
  | inl same ↦ absurd (before_itself b (subst (λ (x : List ℕ). path_cmp x b ≡ Less) ((bytes_eq-Decides a b).0 same) less))
  | inr other ↦ other
]

not_same_back : (a b : List ℕ) → path_cmp b a ≡ Less → bytes_eq a b ≡ false
not_same_back a b less = elim (cases_Bool (bytes_eq a b)) [
  | inl same ↦ absurd (before_itself b (subst (λ (x : List ℕ). path_cmp b x ≡ Less) ((bytes_eq-Decides a b).0 same) less))
  | inr other ↦ other
]

abbrev pub says : List ℕ → Moment → ℕ → Record → Bool
says dir time device r = bytes_eq r.path dir && bears r time device

no_left : (b c : Bool) → b ≡ false → (b && c) ≡ false
no_left b c e = ap (λ (x : Bool). x && c) e

kept_vouch : (dir : List ℕ) (time : Moment) (device : ℕ) (b : Placed) (rest : List Placed) (t : Bool) → not_before dir b ≡ t → (says dir time device b.0 || is_vouched (recs rest) dir time device) ≡ is_vouched (recs (if t then b ∷ rest else rest)) dir time device
kept_vouch dir time device b rest true e = refl
kept_vouch dir time device b rest false e =
    ap (λ (x : Bool). x || is_vouched (recs rest) dir time device) (no_left (bytes_eq b.0.path dir) (bears b.0 time device) (not_same b.0.path dir (less_is (path_cmp b.0.path dir) (not_false _ e))))
  where
    not_false : (x : Bool) → not x ≡ false → x ≡ true
    not_false true e = refl
    not_false false e = absurd cc

vouched_kept : (dir : List ℕ) (time : Moment) (device : ℕ) (blocks : List Placed) → is_vouched (recs blocks) dir time device ≡ is_vouched (recs (filter (not_before dir) blocks)) dir time device
vouched_kept dir time device [] = refl
vouched_kept dir time device (b ∷ blocks) =
    ap (λ (x : Bool). says dir time device b.0 || x) (vouched_kept dir time device blocks) ∙ kept_vouch dir time device b (filter (not_before dir) blocks) (not_before dir b) refl

own_silent : (dir : List ℕ) (time : Moment) (device version : ℕ) (head : Head) (names : Listed) (at : ℕ) (usable : Bool) (rest : List Placed) → says dir time device (record_of version head names) ≡ false
    → is_vouched (recs (map (λ (r : Record). let q : Placed = (r, at) in q) (if usable then record_of version head names ∷ [] else []) ++ rest)) dir time device ≡ is_vouched (recs rest) dir time device
own_silent dir time device version head names at true rest e = ap (λ (x : Bool). x || is_vouched (recs rest) dir time device) e
own_silent dir time device version head names at false rest e = refl

later_than : (dir : List ℕ) (head : List ℕ) (rest : Bool) → (is_lt (path_cmp dir head) && rest) ≡ true → bytes_eq head dir ≡ false
later_than dir head rest h = not_same_back head dir (less_is _ (and_parts (is_lt (path_cmp dir head)) rest h).0)

abbrev all_after : List ℕ → List (List ℕ) → Bool
all_after dir heads = list_all (λ q. is_lt (path_cmp dir q)) heads

-- none of the records vouches where all heads come after the directory
later_none : (dir : List ℕ) (time : Moment) (device version place : ℕ) (items : List Item) → all_after dir (head_paths items) ≡ true → is_vouched (recs (placed_in version place items)) dir time device ≡ false
later_none dir time device version place [] h = refl
later_none dir time device version place (HeadItem head ∷ items) h =
    own_silent dir time device version head (leading_entries items) (place + size (HeadItem head) + size_behind items) (has_end items && are_usable (leading_entries items)) (placed_in version (place + size (HeadItem head)) items)
    (no_left _ _ (later_than dir head.path (all_after dir (head_paths items)) h))
    ∙ later_none dir time device version (place + size (HeadItem head)) items (and_parts (is_lt (path_cmp dir head.path)) (all_after dir (head_paths items)) h).1
later_none dir time device version place (HeaderItem header ∷ items) h = later_none dir time device version (place + size (HeaderItem header)) items h
later_none dir time device version place (EntryItem kind name ∷ items) h = later_none dir time device version (place + size (EntryItem kind name)) items h
later_none dir time device version place (EndItem ∷ items) h = later_none dir time device version (place + size EndItem) items h

coming_none : (dir : List ℕ) (time : Moment) (device : ℕ) (r : ReaderState) (w : Window) → all_after dir (coming r w).heads ≡ true → is_vouched (records_to_come (coming r w)) dir time device ≡ false
coming_none dir time device r w = by (is_live r.stage)
  where
    by : (b : Bool) → all_after dir (if b then coming_in r.version r.place (items_left r w).items else nothing).heads ≡ true → is_vouched (records_to_come (if b then coming_in r.version r.place (items_left r w).items else nothing)) dir time device ≡ false
    by true h = later_none dir time device r.version r.place (items_left r w).items h
    by false h = refl

all_later : (dir path : List ℕ) (qs : List (List ℕ)) → path_cmp dir path ≡ Less → all_after path qs ≡ true → all_after dir qs ≡ true
all_later dir path [] less h = refl
all_later dir path (q ∷ qs) less h =
    let p = and_parts (is_lt (path_cmp path q)) (all_after path qs) h in
    and_from _ _ (ap is_lt (path_total.trans dir path q less (less_is _ p.0))) (all_later dir path qs less p.1)

-- ---- order

or_right : (a b : Bool) → b ≡ true → (a || b) ≡ true
or_right true b e = refl
or_right false b e = e

or_left : (a b : Bool) → a ≡ true → (a || b) ≡ true
or_left a b e = ap (λ (x : Bool). x || b) e

in_two : (a b : Bool) → (a || b) ≡ true → (a ≡ true) ⊎ (b ≡ true)
in_two true b e = inl refl
in_two false b e = inr e

are_none : (rs : List Record) → is_empty rs ≡ true → rs ≡ []
are_none [] e = refl
are_none (r ∷ rs) e = absurd cc

none_of : (a b : List Record) → ((r : Record) → Contains b r → Contains a r) → is_empty a ≡ true → is_empty b ≡ true
none_of a [] some e = refl
none_of a (r ∷ b) some e = absurd (in_none r (subst (λ (x : List Record). Contains x r) (are_none a e) (some r (in_first r b))))

order_by : (a b : Coming) → ((r : Record) → Contains (records_to_come b) r → Contains (records_to_come a) r) → (paths_rise a.heads ≡ true → paths_rise b.heads ≡ true) → in_order a ≡ true → in_order b ≡ true
order_by a b some rise h = elim (in_two (is_empty (records_to_come a)) (paths_rise a.heads) h) [
  | inl none ↦ or_left _ _ (none_of (records_to_come a) (records_to_come b) some none)
  | inr up ↦ or_right _ _ (rise up)
]

pub order_skips : (dir : List ℕ) (a b : Coming) → Skips dir a b → in_order a ≡ true → in_order b ≡ true
order_skips dir a b s h = order_by a b s.some s.rise h

none_by : (dir : List ℕ) (time : Moment) (device : ℕ) (a b : Coming) → Skips dir a b → (paths_rise b.heads ≡ true → is_vouched (records_to_come b) dir time device ≡ false) → in_order a ≡ true → is_vouched (records_to_come a) dir time device ≡ false
none_by dir time device a b s silent h = elim (in_two (is_empty (records_to_come a)) (paths_rise a.heads) h) [
  | inl none ↦ ap (λ (rs : List Record). is_vouched rs dir time device) (are_none (records_to_come a) none)
  | inr up ↦
      vouched_kept dir time device a.blocks
      ∙ ap (λ (blocks : List Placed). is_vouched (recs blocks) dir time device) s.same
      ∙ sym (vouched_kept dir time device b.blocks)
      ∙ silent (s.rise up)
]

-- ---- the answers

leaves_skipped : (dir : List ℕ) (a b : Coming) (unbroken : Bool) → Skips dir a b → LeavesOf dir (records_to_come a) (in_order a) (records_to_come b) unbroken
leaves_skipped dir a b unbroken s = record { some = s.some; later = λ o u r h less. left_later dir a b r s less h }

-- the source failed
pub answers_broken : (dir : List ℕ) (time : Moment) (device : ℕ) (a : Coming) → AnswersOf dir time device a nothing false (Ok false) []
answers_broken dir time device a = record {
  vouches = refl;
  none = λ is o u. absurd cc;
  leaves = record { some = λ r h. absurd (in_none r h); later = λ o u r h less. absurd cc };
  ordered = λ h. refl;
}

-- no head is left that does not come before the directory
pub answers_end : (dir : List ℕ) (time : Moment) (device : ℕ) (a : Coming) (unbroken : Bool) → Skips dir a nothing → AnswersOf dir time device a nothing unbroken (Ok false) []
answers_end dir time device a unbroken s = record {
  vouches = refl;
  none = λ is o u. none_by dir time device a nothing s (λ up. refl) o;
  leaves = leaves_skipped dir a nothing unbroken s;
  ordered = λ h. refl;
}

greater_less : (a b : List ℕ) → path_cmp a b ≡ Greater → path_cmp b a ≡ Less
greater_less a b e = path_total.antisymm b a ∙ ap (λ (o : Ordering). ordering_reverse o) e

-- the head of a later directory is in hand
pub answers_later : (dir : List ℕ) (time : Moment) (device : ℕ) (a : Coming) (r : ReaderState) (w : Window) (unbroken : Bool) → Skips dir a (coming_at r w) → path_cmp r.path dir ≡ Greater → AnswersOf dir time device a (coming_at r w) unbroken (Ok false) []
answers_later dir time device a r w unbroken s greater =
    let less = greater_less r.path dir greater in
    let items : List Item = (items_left r w).items in
    record {
      vouches = refl;
      none = λ is o u. none_by dir time device a (coming_at r w) s (λ up.
          own_silent dir time device r.version (head_of r) (leading_entries items) (r.place + size_behind items) (has_end items && are_usable (leading_entries items)) (placed_in r.version r.place items) (no_left _ _ (not_same_back r.path dir less))
          ∙ later_none dir time device r.version r.place items (all_later dir r.path (head_paths items) less (and_parts (all_after r.path (head_paths items)) (paths_rise (head_paths items)) up).0)) o;
      leaves = leaves_skipped dir a (coming_at r w) unbroken s;
      ordered = order_skips dir a (coming_at r w) s;
    }

-- the head of the directory is in hand, and does not bear the time and the device
pub answers_other : (dir : List ℕ) (time : Moment) (device : ℕ) (a : Coming) (r : ReaderState) (w : Window) (unbroken : Bool) → Skips dir a (coming_at r w) → r.path ≡ dir
    → ((names : Listed) → bears (record_of r.version (head_of r) names) time device ≡ false) → AnswersOf dir time device a (coming_at r w) unbroken (Ok false) []
answers_other dir time device a r w unbroken s is other =
    let items : List Item = (items_left r w).items in
    record {
      vouches = refl;
      none = λ e o u. none_by dir time device a (coming_at r w) s (λ up.
          own_silent dir time device r.version (head_of r) (leading_entries items) (r.place + size_behind items) (has_end items && are_usable (leading_entries items)) (placed_in r.version r.place items) (no_right _ _ (other (leading_entries items)))
          ∙ later_none dir time device r.version r.place items (subst (λ (x : List ℕ). all_after x (head_paths items) ≡ true) is (and_parts (all_after r.path (head_paths items)) (paths_rise (head_paths items)) up).0)) o;
      leaves = leaves_skipped dir a (coming_at r w) unbroken s;
      ordered = order_skips dir a (coming_at r w) s;
    }
  where
    no_right : (b c : Bool) → c ≡ false → (b && c) ≡ false
    no_right true c e = e
    no_right false c e = refl

-- ---- the directory was passed

abbrev OwnPaths : List ℕ → List Placed → Type 0
OwnPaths path mine = (r : Record) → Contains (recs mine) r → r.path ≡ path

mine_or_rest : (mine rest : List Placed) (r : Record) → Contains (recs (mine ++ rest)) r → Contains (recs mine) r ⊎ Contains (recs rest) r
mine_or_rest [] rest r h = inr h
mine_or_rest (b ∷ mine) rest r h = elim (in_cons b.0 (recs (mine ++ rest)) r h) [
  | inl is ↦ inl (subst (λ (x : Record). Contains (b.0 ∷ recs mine) x) is (in_first b.0 (recs mine)))
  | inr more ↦ elim (mine_or_rest mine rest r more) [ inl x ↦ inl (in_rest b.0 (recs mine) r x) | inr x ↦ inr x ]
]

in_behind : (mine rest : List Placed) (r : Record) → Contains (recs rest) r → Contains (recs (mine ++ rest)) r
in_behind [] rest r h = h
in_behind (b ∷ mine) rest r h = in_rest b.0 (recs (mine ++ rest)) r (in_behind mine rest r h)

leaves_passed : (dir : List ℕ) (a c : Coming) (mine : List Placed) (unbroken : Bool) → Skips dir a (with_own mine dir c) → OwnPaths dir mine → LeavesOf dir (records_to_come a) (in_order a) (records_to_come c) unbroken
leaves_passed dir a c mine unbroken s own = record {
  some = λ r h. s.some r (in_behind mine c.blocks r h);
  later = λ o u r h less. elim (mine_or_rest mine c.blocks r (left_later dir a (with_own mine dir c) r s less h)) [
    | inl x ↦ absurd (before_itself dir (subst (λ (p : List ℕ). path_cmp dir p ≡ Less) (own r x) less))
    | inr x ↦ x
  ];
}

order_passed : (dir : List ℕ) (a c : Coming) (mine : List Placed) → Skips dir a (with_own mine dir c) → in_order a ≡ true → in_order c ≡ true
order_passed dir a c mine s h =
    order_by (with_own mine dir c) c (in_behind mine c.blocks) (λ up. (and_parts (all_after dir c.heads) (paths_rise c.heads) up).1) (order_skips dir a (with_own mine dir c) s h)

one_path : (r : Record) (at : ℕ) → OwnPaths r.path ((r, at) ∷ [])
one_path r at x h = elim (in_cons r [] x h) [ inl is ↦ ap (λ (y : Record). y.path) (sym is) | inr none ↦ absurd (in_none x none) ]

-- its record has these names
pub answers_yes : (dir : List ℕ) (time : Moment) (device : ℕ) (a c : Coming) (r : ReaderState) (names : Listed) (at : ℕ) (unbroken : Bool) → Skips dir a (with_own ((record_of r.version (head_of r) names, at) ∷ []) dir c) → r.path ≡ dir
    → bears (record_of r.version (head_of r) names) time device ≡ true → AnswersOf dir time device a c unbroken (Ok true) names
answers_yes dir time device a c r names at unbroken s is bearing =
    let mine : List Placed = (record_of r.version (head_of r) names, at) ∷ [] in
    record {
      vouches = record { known = record_of r.version (head_of r) names; there = s.some _ (in_first _ (recs c.blocks)); at = is; bearing = bearing; has = refl };
      none = λ e o u. absurd cc;
      leaves = leaves_passed dir a c mine unbroken s (λ x h. one_path (record_of r.version (head_of r) names) at x h ∙ is);
      ordered = order_passed dir a c mine s;
    }

-- it is no record
pub answers_no : (dir : List ℕ) (time : Moment) (device : ℕ) (a : Coming) (r : ReaderState) (w : Window) (unbroken : Bool) → Skips dir a (with_own [] dir (coming r w)) → AnswersOf dir time device a (coming r w) unbroken (Ok false) []
answers_no dir time device a r w unbroken s =
    record {
      vouches = refl;
      none = λ e o u. none_by dir time device a (with_own [] dir (coming r w)) s (λ up. coming_none dir time device r w (and_parts (all_after dir (coming r w).heads) (paths_rise (coming r w).heads) up).0) o;
      leaves = leaves_passed dir a (coming r w) [] unbroken s (λ x h. absurd (in_none x h));
      ordered = order_passed dir a (coming r w) [] s;
    }

own_paths : (r : ReaderState) (w : Window) → OwnPaths r.path (own r w)
own_paths r w x h = by (has_end (items_left r w).items && are_usable (leading_entries (items_left r w).items)) h
  where
    by : (b : Bool) → Contains (recs (map (λ (q : Record). let t : Placed = (q, r.place + size_behind (items_left r w).items) in t) (if b then record_of r.version (head_of r) (leading_entries (items_left r w).items) ∷ [] else []))) x → x.path ≡ r.path
    by true k = one_path (record_of r.version (head_of r) (leading_entries (items_left r w).items)) 0 x k
    by false k = absurd (in_none x k)

-- no memory was left
pub answers_lost : (dir : List ℕ) (time : Moment) (device : ℕ) (a c : Coming) (r : ReaderState) (w : Window) (unbroken : Bool) (e : AllocError) (into : Listed) → Skips dir a (with_own (own r w) dir c) → r.path ≡ dir → AnswersOf dir time device a c unbroken (Err e) into
answers_lost dir time device a c r w unbroken e into s is = record {
  vouches = tt;
  none = λ k o u. absurd cc;
  leaves = leaves_passed dir a c (own r w) unbroken s (λ x h. own_paths r w x h ∙ is);
  ordered = order_passed dir a c (own r w) s;
}

-- a zero time is never relied on
pub answers_zero : (dir : List ℕ) (time : Moment) (device : ℕ) (a : Coming) (unbroken : Bool) → is_zero time ≡ true → AnswersOf dir time device a a unbroken (Ok false) []
answers_zero dir time device a unbroken nil = record {
  vouches = refl;
  none = λ e o u. silent (records_to_come a);
  leaves = record { some = λ r h. h; later = λ o u r h less. h };
  ordered = λ h. h;
}
  where
    one : (r : Record) → says dir time device r ≡ false
    one r = ap (λ (z : Bool). bytes_eq r.path dir && (is_moment r.stamp time && not z && option_map_or (λ d. d == device) r.device true)) nil ∙ by (bytes_eq r.path dir) (is_moment r.stamp time) (option_map_or (λ d. d == device) r.device true)
      where
        by : (a b c : Bool) → (a && (b && false && c)) ≡ false
        by true true c = refl
        by true false c = refl
        by false b c = refl

    silent : (rs : List Record) → is_vouched rs dir time device ≡ false
    silent [] = refl
    silent (r ∷ rs) = ap (λ (x : Bool). x || is_vouched rs dir time device) (one r) ∙ silent rs
