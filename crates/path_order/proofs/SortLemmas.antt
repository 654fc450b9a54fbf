-- Names in the order of their bytes, each once.
use Rattle.std.proofs.Common.{◌≡◌, ℕ, zero, suc, ◌+◌, ◌<◌, ◌≤◌, Bool, true, false, cond, ◌&&◌, T, true≢false, List, [], ◌∷◌, length, get_or, map, refl, sym, ◌∙◌, ap, subst, arith, ◌⊎◌, inl, inr, is_lt, is_eq, Ordering, Less, Equal, Greater, nat_cmp, Contains, IsPermutation, ◌↔◌, Option, Some, None}
use Rattle.std.proofs.lemmas.Cmp.{nat_cmp_total, nat_list_cmp_total, tied_itself, on_total, then_total}
use Rattle.std.proofs.lemmas.List.Sorted.{ranks_by, sorted_far, Contains-permutation, IsPermutation-sym}
use Rattle.std.proofs.lemmas.Map.Text.{is_eq-slice_cmp}
use Rattle.std.specs.Cmp.{IsTotalOrder, Equal-is}
use Rattle.std.specs.Cmp.Lexicographic.{slice_cmp}
use Rattle.std.specs.FinMap.{is_sorted, find, nat_cmp-IsAntisymmetric, slice_cmp-IsAntisymmetric}
use Rattle.std.specs.FinMap.Entries.{below_all, same_entries}
use Rattle.std.specs.List.{dedup_from, dedup}
use Rattle.std.specs.List.Sorted.{IsSortedByKey}
use Rattle.std.specs.Option.{option_map_or}
use Rattle.std.specs.Ordering.{ordering_then, ordering_reverse, eq_by_cmp}
use Rattle.std.specs.Str.{bytes_eq}
use Rattle.path_order.specs.declared.kind.Kind.{Kind}
use Rattle.path_order.specs.declared.kind.Kind.TheVariants.{File, Directory}
use Rattle.path_order.specs.NameList.{Listed, Rises, HasFirst, SortsTo, kind_rank, entry_cmp}

abbrev Entry : Type 0
Entry = List ℕ × Kind

-- the order of names by their bytes
abbrev by_bytes : List ℕ → List ℕ → Ordering
by_bytes = slice_cmp nat_cmp

pub entry_total : IsTotalOrder entry_cmp
entry_total = then_total (on_total (λ (e : Entry). e.0) nat_list_cmp_total) (on_total (λ (e : Entry). kind_rank e.1) nat_cmp_total)

-- P holds of each
abbrev Each : {X : Type 0} → (X → Type 0) → List X → Type 0
Each P [] = Unit {0}
Each P (x ∷ xs) = P x × Each P xs

-- x is among the list
abbrev Has : Entry → Listed → Type 0
Has x [] = ⊥
Has x (y ∷ ys) = (x ≡ y) ⊎ Has x ys

-- an entry isn't before another
abbrev NotBefore : Entry → Entry → Type 0
NotBefore k e = is_lt (entry_cmp e k) ≡ false

-- no entry is before an earlier one
abbrev pub Ascends : Listed → Type 0
Ascends [] = Unit {0}
Ascends (e ∷ es) = Each (NotBefore e) es × Ascends es

-- membership by a place, and by recursion
has_contains : (x : Entry) (xs : Listed) → Has x xs → Contains xs x
has_contains x [] h = absurd h
has_contains x (y ∷ ys) (inl e) = (0, omega arith, sym e)
has_contains x (y ∷ ys) (inr h) = let r = has_contains x ys h in (suc r.0, omega (arith, r.1), r.2)

has_at : (xs : Listed) (k : ℕ) (x : Entry) → k < length xs → get_or xs k x ≡ x → Has x xs
has_at [] k x h e = absurd (omega (arith, h))
has_at (y ∷ ys) zero x h e = inl (sym e)
has_at (y ∷ ys) (suc k) x h e = inr (has_at ys k x (omega (arith, h)) e)

contains_has : (xs : Listed) (x : Entry) → Contains xs x → Has x xs
contains_has xs x c = has_at xs c.0 x c.1 c.2

each_has : (P : Entry → Type 0) (x : Entry) (xs : Listed) → Each P xs → Has x xs → P x
each_has P x [] all h = absurd h
each_has P x (y ∷ ys) all (inl e) = subst P (sym e) all.0
each_has P x (y ∷ ys) all (inr h) = each_has P x ys all.1 h

-- what a name is that does not come before another
upto : (k e : Entry) → NotBefore k e → (by_bytes k.0 e.0 ≡ Less) ⊎ (k.0 ≡ e.0)
upto k e not_before = by (by_bytes e.0 k.0) refl not_before
  where
    by : (o : Ordering) → by_bytes e.0 k.0 ≡ o → is_lt (ordering_then o (nat_cmp (kind_rank e.1) (kind_rank k.1))) ≡ false → (by_bytes k.0 e.0 ≡ Less) ⊎ (k.0 ≡ e.0)
    by Less is h = absurd (true≢false h)
    by Equal is h = inr (sym (slice_cmp-IsAntisymmetric nat_cmp-IsAntisymmetric e.0 k.0 is))
    by Greater is h = inl (nat_list_cmp_total.antisymm k.0 e.0 ∙ ap ordering_reverse is)

tied : (m n : List ℕ) → m ≡ n → by_bytes m n ≡ Equal
tied m n e = ap (λ (l : List ℕ). by_bytes m l) (sym e) ∙ tied_itself nat_list_cmp_total m

-- of equal names, what comes before a file is one
file_first : (k e : Entry) → NotBefore k e → k.0 ≡ e.0 → e.1 ≡ File → k.1 ≡ File
file_first k e not_before same file =
    by k.1 (ap (λ (o : Ordering). is_lt (ordering_then o (nat_cmp (kind_rank e.1) (kind_rank k.1)))) (sym (tied e.0 k.0 (sym same))) ∙ not_before)
  where
    by : (kind : Kind) → is_lt (nat_cmp (kind_rank e.1) (kind_rank kind)) ≡ false → kind ≡ File
    by File h = refl
    by Directory h = absurd (true≢false (ap (λ (f : Kind). is_lt (nat_cmp (kind_rank f) 1)) (sym file) ∙ h))

-- the same name
abbrev pub same_name : Entry → Entry → Bool
same_name next kept = bytes_eq next.0 kept.0

equal_names : (m n : List ℕ) → bytes_eq m n ≡ true → m ≡ n
equal_names m n e = slice_cmp-IsAntisymmetric nat_cmp-IsAntisymmetric m n ((Equal-is _).0 (is_eq-slice_cmp m n ∙ e))

other_names : (m n : List ℕ) → bytes_eq m n ≡ false → m ≡ n → ⊥
other_names m n e same = true≢false (sym (ap is_eq (tied m n same)) ∙ is_eq-slice_cmp m n ∙ e)

-- a name that is another than the one before it comes after that
less_next : (k x : Entry) → NotBefore k x → same_name x k ≡ false → by_bytes k.0 x.0 ≡ Less
less_next k x not_before other = by (upto k x not_before)
  where
    by : (by_bytes k.0 x.0 ≡ Less) ⊎ (k.0 ≡ x.0) → by_bytes k.0 x.0 ≡ Less
    by (inl less) = less
    by (inr same) = absurd (other_names x.0 k.0 other (sym same))

-- and all that follow come after it too
less_later : (k x e : Entry) → by_bytes k.0 x.0 ≡ Less → NotBefore x e → by_bytes k.0 e.0 ≡ Less
less_later k x e less not_before = by (upto x e not_before)
  where
    by : (by_bytes x.0 e.0 ≡ Less) ⊎ (x.0 ≡ e.0) → by_bytes k.0 e.0 ≡ Less
    by (inl later) = nat_list_cmp_total.trans k.0 x.0 e.0 less later
    by (inr same) = ap (by_bytes k.0) (sym same) ∙ less

-- the entries that are kept after this one was
abbrev kept_from : Entry → Listed → Listed
kept_from k xs = dedup_from same_name k xs

first_kept : (k : Entry) (xs : Listed) → Has k (kept_from k xs)
first_kept k [] = inl refl
first_kept k (x ∷ xs) = by (same_name x k) (first_kept k xs)
  where
    by : (b : Bool) → Has k (kept_from k xs) → Has k (cond b (kept_from k xs) (k ∷ kept_from x xs))
    by true h = h
    by false h = inl refl

kept_had : (e k : Entry) (xs : Listed) → Has e (kept_from k xs) → Has e (k ∷ xs)
kept_had e k [] h = h
kept_had e k (x ∷ xs) h = by (same_name x k) h (kept_had e k xs) (kept_had e x xs)
  where
    by : (b : Bool) → Has e (cond b (kept_from k xs) (k ∷ kept_from x xs)) → (Has e (kept_from k xs) → Has e (k ∷ xs)) → (Has e (kept_from x xs) → Has e (x ∷ xs)) → Has e (k ∷ x ∷ xs)
    by true h first others = put (first h)
      where
        put : Has e (k ∷ xs) → Has e (k ∷ x ∷ xs)
        put (inl is) = inl is
        put (inr later) = inr (inr later)
    by false (inl is) first others = inl is
    by false (inr h) first others = inr (others h)

-- each name is kept with some kind
name_kept : (n : List ℕ) (kind : Kind) (k : Entry) (xs : Listed) → Has (n, kind) (k ∷ xs) → (other : Kind) × Has (n, other) (kept_from k xs)
name_kept n kind k [] h = (kind, h)
name_kept n kind k (x ∷ xs) h = by (same_name x k) refl h (name_kept n kind k xs) (name_kept n kind x xs)
  where
    here : n ≡ k.0 → (other : Kind) × Has (n, other) (kept_from k xs)
    here is = (k.1, subst (λ (m : List ℕ). Has (m, k.1) (kept_from k xs)) (sym is) (first_kept k xs))

    by : (b : Bool) → same_name x k ≡ b → Has (n, kind) (k ∷ x ∷ xs) → (Has (n, kind) (k ∷ xs) → (other : Kind) × Has (n, other) (kept_from k xs)) → (Has (n, kind) (x ∷ xs) → (other : Kind) × Has (n, other) (kept_from x xs))
        → (other : Kind) × Has (n, other) (cond b (kept_from k xs) (k ∷ kept_from x xs))
    by true same (inl is) first others = first (inl is)
    by true same (inr (inl is)) first others = here (ap (λ (e : Entry). e.0) is ∙ equal_names x.0 k.0 same)
    by true same (inr (inr h)) first others = first (inr h)
    by false other (inl is) first others = (kind, inl is)
    by false other (inr h) first others = let r = others h in (r.0, inr r.1)

-- each file is kept as one
file_kept : (n : List ℕ) (k : Entry) (xs : Listed) → Ascends (k ∷ xs) → Has (n, File) (k ∷ xs) → Has (n, File) (kept_from k xs)
file_kept n k [] up h = h
file_kept n k (x ∷ xs) up h = by (same_name x k) refl h (file_kept n k xs (up.0.1, up.1.1)) (file_kept n x xs up.1)
  where
    here : (n, File) ≡ x → x.0 ≡ k.0 → Has (n, File) (kept_from k xs)
    here is same =
        let file : k.1 ≡ File = file_first k x up.0.0 (sym same) (ap (λ (e : Entry). e.1) (sym is)) in
        let name : n ≡ k.0 = ap (λ (e : Entry). e.0) is ∙ same in
        let all : ◌≡◌ {A = Entry} k (n, File) = λ i. (sym name i, file i) in
        subst (λ (e : Entry). Has e (kept_from k xs)) all (first_kept k xs)

    by : (b : Bool) → same_name x k ≡ b → Has (n, File) (k ∷ x ∷ xs) → (Has (n, File) (k ∷ xs) → Has (n, File) (kept_from k xs)) → (Has (n, File) (x ∷ xs) → Has (n, File) (kept_from x xs))
        → Has (n, File) (cond b (kept_from k xs) (k ∷ kept_from x xs))
    by true same (inl is) first others = first (inl is)
    by true same (inr (inl is)) first others = here is (equal_names x.0 k.0 same)
    by true same (inr (inr h)) first others = first (inr h)
    by false other (inl is) first others = inl is
    by false other (inr h) first others = inr (others h)

both : (a b : Bool) → T a → T b → T (a && b)
both true b p q = q
both false b p q = absurd p

parts : (a b : Bool) → T (a && b) → T a × T b
parts true b h = (tt, h)
parts false b h = absurd h

-- what comes before each of a list is below all of it
below : (n : List ℕ) (xs : Listed) → ((e : Entry) → Has e xs → by_bytes n e.0 ≡ Less) → T (below_all by_bytes n xs)
below n [] less = tt
below n (x ∷ xs) less = both (is_lt (by_bytes n x.0)) _ (subst (λ (o : Ordering). T (is_lt o)) (sym (less x (inl refl))) tt) (below n xs (λ e h. less e (inr h)))

kept_rises : (k : Entry) (xs : Listed) → Ascends (k ∷ xs) → T (is_sorted by_bytes (kept_from k xs))
kept_rises k [] up = tt
kept_rises k (x ∷ xs) up = by (same_name x k) refl (kept_rises k xs (up.0.1, up.1.1)) (kept_rises x xs up.1)
  where
    later : same_name x k ≡ false → (e : Entry) → Has e (x ∷ xs) → by_bytes k.0 e.0 ≡ Less
    later other e (inl is) = subst (λ (y : Entry). by_bytes k.0 y.0 ≡ Less) (sym is) (less_next k x up.0.0 other)
    later other e (inr h) = less_later k x e (less_next k x up.0.0 other) (each_has (NotBefore x) e xs up.1.0 h)

    by : (b : Bool) → same_name x k ≡ b → T (is_sorted by_bytes (kept_from k xs)) → T (is_sorted by_bytes (kept_from x xs)) → T (is_sorted by_bytes (cond b (kept_from k xs) (k ∷ kept_from x xs)))
    by true same first others = first
    by false other first others = both (below_all by_bytes k.0 (kept_from x xs)) _ (below k.0 (kept_from x xs) (λ e h. later other e (kept_had e x xs h))) others

kept_fewer : (k : Entry) (xs : Listed) → length (kept_from k xs) ≤ suc (length xs)
kept_fewer k [] = omega arith
kept_fewer k (x ∷ xs) = by (same_name x k) (kept_fewer k xs) (kept_fewer x xs)
  where
    by : (b : Bool) → length (kept_from k xs) ≤ suc (length xs) → length (kept_from x xs) ≤ suc (length xs) → length (cond b (kept_from k xs) (k ∷ kept_from x xs)) ≤ suc (suc (length xs))
    by true first others = omega arith
    by false first others = omega arith

-- the same of a whole list
abbrev pub kept_of : Listed → Listed
kept_of xs = dedup same_name xs

all_kept_had : (e : Entry) (xs : Listed) → Has e (kept_of xs) → Has e xs
all_kept_had e [] h = h
all_kept_had e (k ∷ xs) h = kept_had e k xs h

all_name_kept : (n : List ℕ) (kind : Kind) (xs : Listed) → Has (n, kind) xs → (other : Kind) × Has (n, other) (kept_of xs)
all_name_kept n kind [] h = absurd h
all_name_kept n kind (k ∷ xs) h = name_kept n kind k xs h

all_file_kept : (n : List ℕ) (xs : Listed) → Ascends xs → Has (n, File) xs → Has (n, File) (kept_of xs)
all_file_kept n [] up h = h
all_file_kept n (k ∷ xs) up h = file_kept n k xs up h

all_kept_rises : (xs : Listed) → Ascends xs → T (is_sorted by_bytes (kept_of xs))
all_kept_rises [] up = tt
all_kept_rises (k ∷ xs) up = kept_rises k xs up

pub all_kept_fewer : (xs : Listed) → length (kept_of xs) ≤ length xs
all_kept_fewer [] = omega arith
all_kept_fewer (k ∷ xs) = kept_fewer k xs

-- the names of a list that rises are below those after them
above : (n : List ℕ) (xs : Listed) → T (below_all by_bytes n xs) → (e : Entry) → Has e xs → by_bytes n e.0 ≡ Less
above n [] h e has = absurd has
above n (x ∷ xs) h e (inl is) = subst (λ (y : Entry). by_bytes n y.0 ≡ Less) (sym is) (less (by_bytes n x.0) (parts (is_lt (by_bytes n x.0)) _ h).0)
  where
    less : (o : Ordering) → T (is_lt o) → o ≡ Less
    less Less t = refl
    less Equal t = absurd t
    less Greater t = absurd t
above n (x ∷ xs) h e (inr has) = above n xs (parts (is_lt (by_bytes n x.0)) _ h).1 e has

not_below_itself : (n : List ℕ) → by_bytes n n ≡ Less → ⊥
not_below_itself n e = true≢false (ap is_eq (sym (tied_itself nat_list_cmp_total n)) ∙ ap is_eq e)

-- so each stands once
one_kind : (n : List ℕ) (a b : Kind) (xs : Listed) → T (is_sorted by_bytes xs) → Has (n, a) xs → Has (n, b) xs → a ≡ b
one_kind n a b [] up h k = absurd h
one_kind n a b (x ∷ xs) up (inl is) (inl too) = ap (λ (e : Entry). e.1) (is ∙ sym too)
one_kind n a b (x ∷ xs) up (inl is) (inr k) =
    absurd (not_below_itself n (subst (λ (m : List ℕ). by_bytes m n ≡ Less) (sym (ap (λ (e : Entry). e.0) is)) (above x.0 xs (parts (below_all by_bytes x.0 xs) _ up).0 (n, b) k)))
one_kind n a b (x ∷ xs) up (inr h) (inl too) =
    absurd (not_below_itself n (subst (λ (m : List ℕ). by_bytes m n ≡ Less) (sym (ap (λ (e : Entry). e.0) too)) (above x.0 xs (parts (below_all by_bytes x.0 xs) _ up).0 (n, a) h)))
one_kind n a b (x ∷ xs) up (inr h) (inr k) = one_kind n a b xs (parts (below_all by_bytes x.0 xs) _ up).1 h k

file_is_no_directory : File ≡ Directory → ⊥
file_is_no_directory e = cc

holds : (b : Bool) → T b → b ≡ true
holds true h = refl
holds false h = absurd h

test : (b : Bool) → b ≡ true → T b
test true e = tt
test false e = absurd (true≢false (sym e))

-- names that ascend, without repeats, are what their list is sorted to
pub sorts_to : (old sorted : Listed) → IsPermutation old sorted → Ascends sorted → SortsTo old (kept_of sorted)
sorts_to old sorted moved up = record { rises = holds _ (all_kept_rises sorted up); holds = each }
  where
    old_of : (e : Entry) → Has e (kept_of sorted) → Contains old e
    old_of e h = Contains-permutation sorted old e (IsPermutation-sym old sorted moved) (has_contains e sorted (all_kept_had e sorted h))

    new_of : (e : Entry) → Contains old e → Has e sorted
    new_of e c = contains_has sorted e (Contains-permutation old sorted e moved c)

    directory : (n : List ℕ) → (Contains old (n, File) → ⊥) → (found : (other : Kind) × Has (n, other) (kept_of sorted)) → Contains (kept_of sorted) (n, Directory)
    directory n none (File, h) = absurd (none (old_of (n, File) h))
    directory n none (Directory, h) = has_contains (n, Directory) (kept_of sorted) h

    each : (n : List ℕ) (kind : Kind) → Contains (kept_of sorted) (n, kind) ↔ HasFirst old n kind
    each n File = (λ c. old_of (n, File) (contains_has (kept_of sorted) (n, File) c), λ c. has_contains (n, File) (kept_of sorted) (all_file_kept n sorted up (new_of (n, File) c)))
    each n Directory = (
      λ c. (old_of (n, Directory) (contains_has (kept_of sorted) (n, Directory) c), λ f. file_is_no_directory (one_kind n File Directory (kept_of sorted) (all_kept_rises sorted up) (all_file_kept n sorted up (new_of (n, File) f)) (contains_has (kept_of sorted) (n, Directory) c))),
      λ p. directory n p.1 (all_name_kept n Directory sorted (new_of (n, Directory) p.0)),
    )

-- elements that stand in order by a key ascend
pub ascends_by : {X : Type 0} (f : X → Entry) (xs : List X) → IsSortedByKey f entry_cmp xs → Ascends (map f xs)
ascends_by f [] up = tt
ascends_by {X} f (x ∷ xs) up = (later x xs (λ k d h. sorted_far (λ a b. is_lt (entry_cmp (f a) (f b))) (ranks_by entry_total f) (x ∷ xs) up 0 (suc k) d (omega arith) (omega arith)), ascends_by f xs (λ k d low high. let next : suc k + 1 ≡ suc (k + 1) = omega arith in subst (λ (n : ℕ). is_lt (entry_cmp (f (get_or (x ∷ xs) n d)) (f (get_or xs k d))) ≡ false) next (up (suc k) d (omega arith) (omega arith))))
  where
    later : (k : X) (ys : List X) → ((i : ℕ) (d : X) → i < length ys → is_lt (entry_cmp (f (get_or ys i d)) (f k)) ≡ false) → Each (NotBefore (f k)) (map f ys)
    later k [] h = tt
    later k (y ∷ ys) h = (h 0 y (omega arith), later k ys (λ i d lt. h (suc i) d (omega arith)))

-- what a look-up finds is among the list
found_has : (q : List ℕ) (k : Kind) (es : Listed) → find by_bytes q es ≡ Some k → Has (q, k) es
found_has q k [] e = absurd (true≢false (sym (ap (λ (o : Option Kind). option_map_or (λ z. true) o false) e)))
found_has q k (x ∷ es) e = by (eq_by_cmp by_bytes q x.0) refl e (found_has q k es)
  where
    by : (b : Bool) → eq_by_cmp by_bytes q x.0 ≡ b → cond b (Some x.1) (find by_bytes q es) ≡ Some k → (find by_bytes q es ≡ Some k → Has (q, k) es) → Has (q, k) (x ∷ es)
    by true t h f =
        let key : q ≡ x.0 = slice_cmp-IsAntisymmetric nat_cmp-IsAntisymmetric q x.0 ((Equal-is _).0 t) in
        let value : k ≡ x.1 = ap (λ (o : Option Kind). option_map_or (λ z. z) o k) (sym h) in
        inl (λ i. (key i, value i))
    by false t h f = inr (f h)

-- and what is among a list that rises is found
has_found : (q : List ℕ) (k : Kind) (es : Listed) → T (is_sorted by_bytes es) → Has (q, k) es → find by_bytes q es ≡ Some k
has_found q k [] up h = absurd h
has_found q k (x ∷ es) up (inl is) =
    ap (λ (b : Bool). cond b (Some x.1) (find by_bytes q es)) (ap is_eq (tied q x.0 (ap (λ (e : Entry). e.0) is))) ∙ ap (λ (e : Entry). Some e.1) (sym is)
has_found q k (x ∷ es) up (inr h) =
    let split = parts (below_all by_bytes x.0 es) _ up in
    let more : by_bytes q x.0 ≡ Greater = nat_list_cmp_total.antisymm q x.0 ∙ ap ordering_reverse (above x.0 es split.0 (q, k) h) in
    ap (λ (b : Bool). cond b (Some x.1) (find by_bytes q es)) (ap is_eq more) ∙ has_found q k es split.1 h

-- two lists that rise and have the same elements are one
rising_same : (xs ys : Listed) → T (is_sorted by_bytes xs) → T (is_sorted by_bytes ys) → ((e : Entry) → Has e xs → Has e ys) → ((e : Entry) → Has e ys → Has e xs) → xs ≡ ys
rising_same xs ys up_x up_y to back =
    same_entries by_bytes nat_list_cmp_total (slice_cmp-IsAntisymmetric nat_cmp-IsAntisymmetric) xs ys up_x up_y (λ q. one q (find by_bytes q xs) refl)
  where
    none : (q : List ℕ) (o : Option Kind) → find by_bytes q ys ≡ o → find by_bytes q xs ≡ None → None ≡ o
    none q None e n = refl
    none q (Some k) e n =
        absurd (true≢false (ap (λ (o : Option Kind). option_map_or (λ z. true) o false) (sym (has_found q k xs up_x (back (q, k) (found_has q k ys e))) ∙ n)))

    one : (q : List ℕ) (o : Option Kind) → find by_bytes q xs ≡ o → find by_bytes q xs ≡ find by_bytes q ys
    one q None e = e ∙ none q (find by_bytes q ys) refl e
    one q (Some k) e = e ∙ sym (has_found q k ys up_y (to (q, k) (found_has q k xs e)))

-- a list is sorted to one list
pub sorted_once : (old a b : Listed) → SortsTo old a → SortsTo old b → a ≡ b
sorted_once old a b s t =
    rising_same a b (test _ s.rises) (test _ t.rises) (λ e h. contains_has b e ((t.holds e.0 e.1).1 ((s.holds e.0 e.1).0 (has_contains e a h)))) (λ e h. contains_has a e ((s.holds e.0 e.1).1 ((t.holds e.0 e.1).0 (has_contains e b h))))

-- a list that rises, and has the same elements, is what a list is sorted to
pub rising_sorts : (old other : Listed) → Rises other → ((name : List ℕ) (kind : Kind) → Contains other (name, kind) ↔ Contains old (name, kind)) → SortsTo old other
rising_sorts old other up same = record { rises = up; holds = each }
  where
    each : (name : List ℕ) (kind : Kind) → Contains other (name, kind) ↔ HasFirst old name kind
    each name File = same name File
    each name Directory = (
      λ c. ((same name Directory).0 c, λ f. file_is_no_directory (one_kind name File Directory other (test _ up) (contains_has other (name, File) ((same name File).1 f)) (contains_has other (name, Directory) c))),
      λ p. (same name Directory).1 p.0,
    )
