-- The row that decides for a path, and the rows before the last at a path.
use Rattle.std.proofs.Common.{◌≡◌, ◌≢◌, ℕ, zero, suc, ◌+◌, ◌-◌, ◌<◌, ◌≤◌, max, List, [], ◌∷◌, ◌++◌, length, get_or, take, refl, sym, ◌∙◌, ap, arith, subst, Bool, true, false, not, cond, Some, None, Option, inl, inr, length-append, append_assoc}
use Rattle.std.proofs.lemmas.Bool.{cases_Bool, false_from_ne_true, or_parts, or_from, and_parts, and_from, and_left, and_right, both_ways, eqb-true, eq-eqb, cases_lt, cases_eq, not_from_true, not_from_false}
use Rattle.std.proofs.lemmas.List.{length-take-le, get_or_at, get_or-append_right, get_or-take}
use Rattle.std.proofs.lemmas.List.Sums.{suffix_len_is}
use Rattle.std.proofs.lemmas.Slice.Eq.{bytes_eq-Decides}
use Rattle.std.specs.List.{filter, fold, list_any, last_or, before_last, suffix_len, All}
use Rattle.std.specs.Option.{option_map_or, unwrap_or}
use Rattle.std.specs.Prelude.{◌&&◌, ◌==◌, slice_get}
use Rattle.path_order.specs.Path.{is_normal, begins_at_root}
use Rattle.mount_table.specs.Index.{IsLastAt, Tops, is_top}
use Rattle.mount_table.specs.Lookup.{covers, covering_len, deciding, is_at, shows_elsewhere, is_bind}
use Rattle.mount_table.specs.Part.{EndsPrefix, NoneLonger}
use Rattle.mount_table.specs.Prefix.{is_path_prefix}
use Rattle.mount_table.specs.Row.{MountRow}
use Rattle.mount_table.proofs.PrefixLemmas.{IsFront, IsFront-from, is_path_prefix-take}

-- what passes no test is left out whole
pub filter-none : {X : Type 0} (t : X → Bool) (xs : List X) → list_any t xs ≡ false → filter t xs ≡ []
filter-none t [] none = refl
filter-none t (x ∷ xs) none =
    let parts = or_parts (t x) (list_any t xs) none in
    rw parts.0 (filter-none t xs parts.1)

-- the last that passes
last_kept : {X : Type 0} (b : Bool) (o : Option X) (x : X) (xs : List X) (r : Option X) → ((o : Option X) → last_or o xs ≡ r) → last_or o (cond b (x ∷ xs) xs) ≡ r
last_kept true o x xs r h = h (Some x)
last_kept false o x xs r h = h o

pub last_or-filter : {X : Type 0} (t : X → Bool) (before : List X) (x : X) (after : List X) → t x ≡ true → list_any t after ≡ false → (o : Option X) → last_or o (filter t (before ++ x ∷ after)) ≡ Some x
last_or-filter t [] x after holds none o = rw holds (ap (last_or (Some x)) (filter-none t after none))
last_or-filter t (y ∷ before) x after holds none o = last_kept (t y) o y (filter t (before ++ x ∷ after)) (Some x) (last_or-filter t before x after holds none)

-- what covers a path
pub covers-front : (path : List ℕ) (row : MountRow) → covers path row ≡ true → IsFront row.point path × (is_normal row.point ≡ true)
unfolding covers
covers-front path row e = let parts = and_parts _ _ e in (IsFront-from row.point path parts.1, parts.0)

-- a normal text is not empty
not_nothing : (text : List ℕ) → is_normal text ≡ true → 0 < length text
not_nothing [] e = cc
not_nothing (x ∷ text) e = omega arith

pub none_longer-path : (path : List ℕ) (rows : List MountRow) → NoneLonger path (length path) rows
none_longer-path path [] = tt
none_longer-path path (row ∷ rows) = (λ e. (covers-front path row e).0.within, none_longer-path path rows)

is_top-same : (tops : List Bool) (a b : List ℕ) → get_or b 1 0 ≡ get_or a 1 0 → is_top tops a ≡ true → is_top tops b ≡ true
is_top-same tops a b same top = subst (λ (k : ℕ). unwrap_or (slice_get tops k) false ≡ true) (sym same) top

-- A path has the second byte of each longer mount point that covers it.
same_second : (path : List ℕ) (row : MountRow) → covers path row ≡ true → 1 < length row.point → get_or path 1 0 ≡ get_or row.point 1 0
same_second path row e long =
    let front = (covers-front path row e).0 in
    sym (ap (λ (l : List ℕ). get_or l 1 0) front.front ∙ get_or-take (length row.point) path 1 0 long)

-- where the second byte is that of no mount point, none but the root covers the path
pub none_longer-top : (tops : List Bool) (path : List ℕ) (rows : List MountRow) → Tops rows tops → is_top tops path ≡ false → NoneLonger path 1 rows
none_longer-top tops path [] h other = tt
none_longer-top tops path (row ∷ rows) h other = (
  λ e. elim (cases_lt 1 (length row.point)) [
    | inl long ↦ absurd (both_ways _ other (is_top-same tops row.point path (same_second path row e long) (h.0 long)))
    | inr past ↦ past
  ],
  none_longer-top tops path rows h.1 other,
)

-- no prefix ends between two places
abbrev pub NoneBetween : List ℕ → ℕ → ℕ → Type 0
NoneBetween path low high = (k : ℕ) → low < k → k < high → (k ≢ 1) × (get_or path k 0 ≢ 47)

-- a mount point that is shorter than a front of the path is not longer than the next shorter prefix
shorter : (path point : List ℕ) (low high : ℕ) → IsFront point path → high ≤ length path → length point < high → NoneBetween path low high → length point ≤ low
shorter path point low high front within less none = elim (cases_lt low (length point)) [
  | inr past ↦ past
  | inl between ↦ let differs = none (length point) between less in elim front.ends [
    | inl all ↦ absurd (omega arith)
    | inr other ↦ elim other [
      | inl one ↦ absurd (differs.0 one)
      | inr slash ↦ absurd (differs.1 slash)
    ]
  ]
]

-- where no row is at a front, none that covers the path is longer than the next shorter prefix
pub none_longer-next : (path : List ℕ) (low high : ℕ) (rows : List MountRow) → high ≤ length path → NoneBetween path low high → (is_normal (take high path) ≡ true → list_any (is_at (take high path)) rows ≡ false) → NoneLonger path high rows → NoneLonger path low rows
none_longer-next path low high [] within none absent most = tt
none_longer-next path low high (row ∷ rows) within none absent most = (
  λ e.
      let c = covers-front path row e in
      elim (cases_eq (length row.point) high) [
        | inl same ↦
            let is : row.point ≡ take high path = c.0.front ∙ ap (λ (n : ℕ). take n path) same in
            let here : is_at (take high path) row ≡ true = (bytes_eq-Decides row.point (take high path)).1 is in
            absurd (both_ways _ (or_parts (is_at (take high path) row) (list_any (is_at (take high path)) rows) (absent (ap is_normal (sym is) ∙ c.1))).0 here)
        | inr other ↦ shorter path row.point low high c.0 within (let m = most.0 e in omega arith) none
      ],
  none_longer-next path low high rows within none (λ normal. (or_parts (is_at (take high path) row) (list_any (is_at (take high path)) rows) (absent normal)).1) most.1,
)

-- where none is longer than nothing, none covers
pub none_covers : (path : List ℕ) (rows : List MountRow) → NoneLonger path 0 rows → list_any (covers path) rows ≡ false
none_covers path [] most = refl
none_covers path (row ∷ rows) most =
    or_from _ _ (false_from_ne_true _ (λ e. let some = not_nothing row.point (covers-front path row e).1 in let m = most.0 e in absurd (omega arith))) (none_covers path rows most.1)

-- the longest so far
abbrev pub longest_from : List ℕ → ℕ → List MountRow → ℕ
longest_from path start rows = fold (λ longest row. max longest (length row.point)) start (filter (covers path) rows)

longest_most : (path : List ℕ) (len start : ℕ) (rows : List MountRow) → start ≤ len → NoneLonger path len rows → longest_from path start rows ≤ len
longest_most path len start [] begins most = begins
longest_most path len start (row ∷ rows) begins most = elim (cases_Bool (covers path row)) [
  | inl holds ↦ let m = most.0 holds in rw holds (longest_most path len (max start (length row.point)) rows (omega arith) most.1)
  | inr fails ↦ rw fails (longest_most path len start rows begins most.1)
]

longest_rises : (path : List ℕ) (start : ℕ) (rows : List MountRow) → start ≤ longest_from path start rows
longest_rises path start [] = omega arith
longest_rises path start (row ∷ rows) = elim (cases_Bool (covers path row)) [
  | inl holds ↦ let h = longest_rises path (max start (length row.point)) rows in rw holds (omega arith)
  | inr fails ↦ let h = longest_rises path start rows in rw fails h
]

longest_least : (path : List ℕ) (start : ℕ) (before : List MountRow) (row : MountRow) (after : List MountRow) → covers path row ≡ true → length row.point ≤ longest_from path start (before ++ row ∷ after)
longest_least path start [] row after holds = let h = longest_rises path (max start (length row.point)) after in rw holds (omega arith)
longest_least path start (first ∷ before) row after holds = elim (cases_Bool (covers path first)) [
  | inl keep ↦ rw keep (longest_least path (max start (length first.point)) before row after holds)
  | inr fails ↦ rw fails (longest_least path start before row after holds)
]

-- whether a row covers a path with a mount point of this length
abbrev pub covers_by : List ℕ → ℕ → MountRow → Bool
covers_by path len row = covers path row && length row.point == len

-- no row after the last at a front covers the path with that front
none_by : (path : List ℕ) (len : ℕ) (rows : List MountRow) → list_any (is_at (take len path)) rows ≡ false → list_any (covers_by path len) rows ≡ false
none_by path len [] none = refl
none_by path len (row ∷ rows) none =
    let parts = or_parts (is_at (take len path) row) (list_any (is_at (take len path)) rows) none in
    or_from _ _
    (false_from_ne_true _
    (λ e. let both = and_parts _ _ e in
    let is : row.point ≡ take len path = (covers-front path row both.0).0.front ∙ ap (λ (n : ℕ). take n path) (eqb-true (length row.point) len both.1) in
    both_ways _ parts.0 ((bytes_eq-Decides row.point (take len path)).1 is)))
    (none_by path len rows parts.1)

-- the last row at the longest front with a row decides
pub deciding-at : (path : List ℕ) (len place : ℕ) (rows : List MountRow) → begins_at_root path ≡ true → len ≤ length path → EndsPrefix path len → NoneLonger path len rows → is_normal (take len path) ≡ true → (last : IsLastAt rows (take len path) place) → (covers path last.row ≡ true) × (deciding rows path ≡ Some last.row)
unfolding covers covering_len deciding
deciding-at path len place rows begins within ends most normal last =
    let is : last.row.point ≡ take len path = (bytes_eq-Decides last.row.point (take len path)).0 last.at_path in
    let long : length last.row.point ≡ len = ap length is ∙ length-take-le len path within in
    let some : 0 < len = let h = not_nothing (take len path) normal in omega (arith, length-take-le len path within) in
    let holds : covers path last.row ≡ true = and_from _ _ (ap is_normal is ∙ normal) (ap (λ (l : List ℕ). is_path_prefix l path) is ∙ is_path_prefix-take path len begins some within ends) in
    let top = longest_most path len 0 rows (omega arith) most in
    let least : length last.row.point ≤ covering_len rows path = subst (λ (l : List MountRow). length last.row.point ≤ longest_from path 0 l) (sym last.whole) (longest_least path 0 last.before last.row last.after holds) in
    let longest : covering_len rows path ≡ len = omega arith in (
      holds,
      ap (λ (n : ℕ). last_or None (filter (covers_by path n) rows)) longest
          ∙ ap (λ (l : List MountRow). last_or None (filter (covers_by path len) l)) last.whole
          ∙ last_or-filter (covers_by path len) last.before last.row last.after (and_from _ _ holds (eq-eqb (length last.row.point) len long)) (none_by path len last.after last.none_after) None,
    )

-- no row decides where none covers
none_pass : (path : List ℕ) (len : ℕ) (rows : List MountRow) → list_any (covers path) rows ≡ false → list_any (covers_by path len) rows ≡ false
none_pass path len [] none = refl
none_pass path len (row ∷ rows) none =
    let parts = or_parts (covers path row) (list_any (covers path) rows) none in or_from _ _ (and_left _ _ parts.0) (none_pass path len rows parts.1)

pub deciding-none : (path : List ℕ) (rows : List MountRow) → list_any (covers path) rows ≡ false → deciding rows path ≡ None
unfolding deciding
deciding-none path rows none = ap (last_or None) (filter-none (covers_by path (covering_len rows path)) rows (none_pass path (covering_len rows path) rows none))

-- a normal path begins at the root
pub normal_begins : (path : List ℕ) → is_normal path ≡ true → begins_at_root path ≡ true
normal_begins path e = (and_parts _ _ (and_parts _ _ e).0).1

-- where the last row at a path stands
pub place_within : (rows : List MountRow) (path : List ℕ) (place : ℕ) → IsLastAt rows path place → place < length rows
place_within rows path place last = omega (arith, ap length last.whole, length-append last.before (last.row ∷ last.after), last.here)

pub row_at : (rows : List MountRow) (path : List ℕ) (place : ℕ) (last : IsLastAt rows path place) (d : MountRow) → get_or rows place d ≡ last.row
row_at rows path place last d = ap (λ (l : List MountRow). get_or l place d) last.whole ∙ get_or_at last.before last.row last.after d place last.here

-- a row that covers the path is one of the rows
pub not_all : (rows : List MountRow) (path at : List ℕ) (place : ℕ) (last : IsLastAt rows at place) → covers path last.row ≡ true → All (λ row. covers path row ≡ false) rows → ⊥
not_all rows path at place last holds all =
    let fails = all place last.row (place_within rows at place last) in
    both_ways _ fails (ap (covers path) (row_at rows at place last last.row) ∙ holds)

-- none covers the path, row by row
pub all_none : (path : List ℕ) (rows : List MountRow) → list_any (covers path) rows ≡ false → All (λ row. covers path row ≡ false) rows
all_none path [] none k d h = absurd (omega arith)
all_none path (row ∷ rows) none zero d h = (or_parts (covers path row) (list_any (covers path) rows) none).0
all_none path (row ∷ rows) none (suc k) d h = all_none path rows (or_parts (covers path row) (list_any (covers path) rows) none).1 k d (omega arith)

-- none passes, one by one
none_at : {X : Type 0} (t : X → Bool) (xs : List X) → list_any t xs ≡ false → (k : ℕ) (d : X) → k < length xs → t (get_or xs k d) ≡ false
none_at t [] none k d h = absurd (omega arith)
none_at t (x ∷ xs) none zero d h = (or_parts (t x) (list_any t xs) none).0
none_at t (x ∷ xs) none (suc k) d h = none_at t xs (or_parts (t x) (list_any t xs) none).1 k d (omega arith)

-- no row after the last at a path is at it
after_last_row : (rows : List MountRow) (path : List ℕ) (place : ℕ) (last : IsLastAt rows path place) (k : ℕ) (d : MountRow) → place + 1 ≤ k → k < length rows → is_at path (get_or rows k d) ≡ false
after_last_row rows path place last k d from to =
    let apart : rows ≡ (last.before ++ last.row ∷ []) ++ last.after = last.whole ∙ sym (append_assoc last.before (last.row ∷ []) last.after) in
    let len : length (last.before ++ last.row ∷ []) ≡ place + 1 = omega (arith, length-append last.before (last.row ∷ []), last.here) in
    let all : length rows ≡ length (last.before ++ last.row ∷ []) + length last.after = ap length apart ∙ length-append (last.before ++ last.row ∷ []) last.after in
    ap (is_at path) (ap (λ (l : List MountRow). get_or l k d) apart ∙ get_or-append_right (last.before ++ last.row ∷ []) last.after (place + 1) k d len from)
    ∙ none_at (is_at path) last.after last.none_after (k - (place + 1)) d (omega arith)

-- the rows before the last at a path
before_last-at : (rows : List MountRow) (path : List ℕ) (place : ℕ) → IsLastAt rows path place → before_last (is_at path) rows ≡ take place rows
before_last-at rows path place last =
    let within = place_within rows path place last in
    let here : is_at path (get_or rows place last.row) ≡ true = ap (is_at path) (row_at rows path place last last.row) ∙ last.at_path in
    let rest : suffix_len (λ row. not (is_at path row)) rows ≡ length rows - (place + 1) = suffix_len_is (λ row. not (is_at path row)) rows (place + 1) last.row (omega arith) (λ k from to. not_from_false _ (after_last_row rows path place last k last.row from to)) (λ _. not_from_true _ (ap (λ (n : ℕ). is_at path (get_or rows n last.row)) (omega arith) ∙ here)) in
    ap (λ (n : ℕ). take n rows) (omega arith)

-- no row at a normal path
pub is_bind-none : (rows : List MountRow) (path : List ℕ) → list_any (is_at path) rows ≡ false → is_bind rows path ≡ false
unfolding is_bind
is_bind-none rows path none =
    ap (λ (l : List MountRow). is_normal path && option_map_or (λ row. list_any (shows_elsewhere path row) (before_last (is_at path) rows)) (last_or None l) false) (filter-none (is_at path) rows none)
    ∙ and_right (is_normal path) false refl

-- the last row at a normal path decides
pub is_bind-at : (rows : List MountRow) (path : List ℕ) (place : ℕ) → is_normal path ≡ true → (last : IsLastAt rows path place) → is_bind rows path ≡ list_any (shows_elsewhere path last.row) (take place rows)
unfolding is_bind
is_bind-at rows path place normal last =
    let found : last_or None (filter (is_at path) rows) ≡ Some last.row = ap (λ (l : List MountRow). last_or None (filter (is_at path) l)) last.whole ∙ last_or-filter (is_at path) last.before last.row last.after last.at_path last.none_after None in
    let rest = before_last-at rows path place last in
    (λ i. normal i && option_map_or (λ row. list_any (shows_elsewhere path row) (rest i)) (found i) false)
