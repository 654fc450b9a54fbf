-- The index of a mount table, row after row.
use Rattle.std.proofs.Common.{◌≡◌, ◌≢◌, ℕ, ◌+◌, ◌<◌, ◌≤◌, arith, List, [], ◌∷◌, ◌++◌, length, get_or, set, take, Bool, refl, sym, ◌∙◌, ap, append_assoc, subst, true, false, Some, None, Option, inl, inr, Vec}
use Rattle.std.proofs.lemmas.Bool.{cases_Bool, cases_eq, false_from_ne_true, or_from, or_parts, both_ways}
use Rattle.std.proofs.lemmas.List.{take_more, get_or-set_same, get_or-set_other}
use Rattle.std.proofs.lemmas.Option.{unwrap_or-slice_get}
use Rattle.std.proofs.lemmas.Slice.Eq.{bytes_eq-Decides}
use Rattle.std.specs.HashMap.{HashMap, UpdatesBy}
use Rattle.std.specs.List.{list_any}
use Rattle.std.specs.Map.{KeepsOthers}
use Rattle.std.specs.Prelude.{bytes_eq}
use Rattle.path_order.specs.Path.{is_normal}
use Rattle.mount_table.specs.Index.{place_in, Indexes, IsIndex, Marks, Tops, mark_place, is_marked, is_top}
use Rattle.mount_table.specs.Lookup.{is_at}
use Rattle.mount_table.specs.Row.{MountRow}

-- what is kept for other mount points
other_place : {Y S : Type 0} (m n : HashMap (Vec ℕ Y) ℕ S) (key : Vec ℕ Y) (path : List ℕ) (place : Option ℕ) → UpdatesBy (λ x y. bytes_eq x.items y.items) (λ k. bytes_eq key.items k.items) m n place → (path ≢ key.items) → place_in n path ≡ place_in m path
unfolding KeepsOthers
other_place m n key path place h other =
    h.3 (λ k. bytes_eq path k.items) (λ x y t. ap (λ (l : List ℕ). bytes_eq l y.items) ((bytes_eq-Decides path x.items).0 t))
    (λ k t. false_from_ne_true _ (λ s. other ((bytes_eq-Decides path k.items).0 s ∙ sym ((bytes_eq-Decides key.items k.items).0 t))))

-- one row more, at another path
none_more : (rows : List MountRow) (row : MountRow) (path : List ℕ) → list_any (is_at path) rows ≡ false → is_at path row ≡ false → list_any (is_at path) (rows ++ row ∷ []) ≡ false
none_more [] row path none other = or_from _ _ other refl
none_more (first ∷ rows) row path none other =
    let parts = or_parts (is_at path first) (list_any (is_at path) rows) none in
    or_from _ _ parts.0 (none_more rows row path parts.1 other)

extended : (rows : List MountRow) (row : MountRow) (path : List ℕ) (place : Option ℕ) → is_at path row ≡ false → Indexes rows path place → Indexes (rows ++ row ∷ []) path place
extended rows row path None other h = λ normal. none_more rows row path (h normal) other
extended rows row path (Some k) other h =
    let last = h.0 in (
      record {
        before = last.before;
        row = last.row;
        after = last.after ++ row ∷ [];
        whole = ap (λ (l : List MountRow). l ++ row ∷ []) last.whole ∙ append_assoc last.before (last.row ∷ last.after) (row ∷ []);
        here = last.here;
        at_path = last.at_path;
        none_after = none_more last.after row path last.none_after other;
      },
      h.1,
    )

-- a row at a path that is not normal
unseen : (rows : List MountRow) (row : MountRow) (path : List ℕ) (place : Option ℕ) → is_normal path ≡ false → Indexes rows path place → Indexes (rows ++ row ∷ []) path place
unseen rows row path None odd h = λ normal. absurd (both_ways _ odd normal)
unseen rows row path (Some k) odd h = absurd (both_ways _ odd h.1)

-- a row whose mount point is not normal leaves the index as it is
pub IsIndex-odd : {Y S : Type 0} (rows : List MountRow) (row : MountRow) (m : HashMap (Vec ℕ Y) ℕ S) → IsIndex rows m → is_normal row.point ≡ false → IsIndex (rows ++ row ∷ []) m
IsIndex-odd rows row m h odd = record {
  at_each = λ path. elim (cases_Bool (is_at path row)) [
    | inl here ↦ unseen rows row path (place_in m path) (ap is_normal (sym ((bytes_eq-Decides row.point path).0 here)) ∙ odd) (h.at_each path)
    | inr other ↦ extended rows row path (place_in m path) other (h.at_each path)
  ];
}

-- the place of a row that was put in
put_in : (rows : List MountRow) (row : MountRow) (place : ℕ) (path : List ℕ) → length rows ≡ place → is_at path row ≡ true → is_normal row.point ≡ true → Indexes (rows ++ row ∷ []) path (Some place)
put_in rows row place path len here normal = (
  record { before = rows; row = row; after = []; whole = refl; here = len; at_path = here; none_after = refl },
  ap is_normal (sym ((bytes_eq-Decides row.point path).0 here)) ∙ normal,
)

-- a row whose mount point is normal is put in
pub IsIndex-push : {Y S : Type 0} (rows : List MountRow) (row : MountRow) (place : ℕ) (m n : HashMap (Vec ℕ Y) ℕ S) (key : Vec ℕ Y) → IsIndex rows m → length rows ≡ place → is_normal row.point ≡ true → key.items ≡ row.point → UpdatesBy (λ x y. bytes_eq x.items y.items) (λ k. bytes_eq key.items k.items) m n (Some place) → IsIndex (rows ++ row ∷ []) n
IsIndex-push rows row place m n key h len normal is updates = record {
  at_each = λ path. elim (cases_Bool (is_at path row)) [
    | inl here ↦
        let same : path ≡ key.items = sym ((bytes_eq-Decides row.point path).0 here) ∙ sym is in
        subst (λ (o : Option ℕ). Indexes (rows ++ row ∷ []) path o) (sym (ap (place_in n) same ∙ updates.1)) (put_in rows row place path len here normal)
    | inr other ↦
        let apart : path ≢ key.items = λ e. both_ways _ other ((bytes_eq-Decides row.point path).1 (sym is ∙ sym e)) in
        subst (λ (o : Option ℕ). Indexes (rows ++ row ∷ []) path o) (sym (other_place m n key path (Some place) updates apart)) (extended rows row path (place_in m path) other (h.at_each path))
  ];
}

-- the rows so far, and one more
pub IsIndex-more : {Y S : Type 0} (rows : List MountRow) (place : ℕ) (row : MountRow) (m : HashMap (Vec ℕ Y) ℕ S) → place < length rows → row ≡ get_or rows place row → IsIndex (take place rows ++ row ∷ []) m → IsIndex (take (place + 1) rows) m
IsIndex-more rows place row m within is h =
    subst (λ (l : List MountRow). IsIndex l m) (ap (λ (x : MountRow). take place rows ++ x ∷ []) is ∙ sym (take_more rows place row within)) h

-- a path of another place of its mark than the one that is set
set_other : (marks : List Bool) (place : ℕ) (path : List ℕ) → (mark_place path ≢ place) → is_marked (set marks place true) path ≡ is_marked marks path
set_other marks place path other =
    unwrap_or-slice_get (set marks place true) (mark_place path) false
    ∙ get_or-set_other marks place (mark_place path) true false other
    ∙ sym (unwrap_or-slice_get marks (mark_place path) false)

set_here : (marks : List Bool) (place : ℕ) (path : List ℕ) → place < length marks → mark_place path ≡ place → is_marked (set marks place true) path ≡ true
set_here marks place path within is =
    unwrap_or-slice_get (set marks place true) (mark_place path) false
    ∙ ap (λ (k : ℕ). get_or (set marks place true) k false) is
    ∙ get_or-set_same marks place true false within

-- the rows so far, and one more whose mark is set
pub Marks-more : (rows : List MountRow) (count : ℕ) (row : MountRow) (marks : List Bool) (place : ℕ) → count < length rows → row ≡ get_or rows count row → place ≡ mark_place row.point → place < length marks → Marks (take count rows) marks → Marks (take (count + 1) rows) (set marks place true)
Marks-more rows count row marks place within is here room h = λ path unmarked.
    let apart : mark_place path ≢ place = λ e. both_ways _ unmarked (set_here marks place path room e) in
    let other : is_at path row ≡ false = false_from_ne_true _ (λ t. apart (ap mark_place (sym ((bytes_eq-Decides row.point path).0 t)) ∙ sym here)) in
    ap (λ (l : List MountRow). list_any (is_at path) l) (take_more rows count row within ∙ ap (λ (x : MountRow). take count rows ++ x ∷ []) (sym is))
    ∙ none_more (take count rows) row path (h path (sym (set_other marks place path apart) ∙ unmarked)) other

top_set_here : (tops : List Bool) (place : ℕ) (path : List ℕ) → place < length tops → get_or path 1 0 ≡ place → is_top (set tops place true) path ≡ true
top_set_here tops place path room is =
    unwrap_or-slice_get (set tops place true) (get_or path 1 0) false
    ∙ ap (λ (k : ℕ). get_or (set tops place true) k false) is
    ∙ get_or-set_same tops place true false room

-- what has a mark keeps it
top_kept : (tops : List Bool) (place : ℕ) (path : List ℕ) → place < length tops → is_top tops path ≡ true → is_top (set tops place true) path ≡ true
top_kept tops place path room top = elim (cases_eq (get_or path 1 0) place) [
  | inl is ↦ top_set_here tops place path room is
  | inr other ↦
      unwrap_or-slice_get (set tops place true) (get_or path 1 0) false
      ∙ get_or-set_other tops place (get_or path 1 0) true false other
      ∙ sym (unwrap_or-slice_get tops (get_or path 1 0) false)
      ∙ top
]

Tops-set : (rows : List MountRow) (tops : List Bool) (place : ℕ) → place < length tops → Tops rows tops → Tops rows (set tops place true)
Tops-set [] tops place room h = tt
Tops-set (row ∷ rows) tops place room h = (λ long. top_kept tops place row.point room (h.0 long), Tops-set rows tops place room h.1)

Tops-push : (rows : List MountRow) (row : MountRow) (tops : List Bool) → Tops rows tops → (1 < length row.point → is_top tops row.point ≡ true) → Tops (rows ++ row ∷ []) tops
Tops-push [] row tops h top = (top, tt)
Tops-push (first ∷ rows) row tops h top = (h.0, Tops-push rows row tops h.1 top)

-- the rows so far, and one more
Tops-next : (rows : List MountRow) (count : ℕ) (row : MountRow) (tops : List Bool) → count < length rows → row ≡ get_or rows count row → Tops (take count rows) tops → (1 < length row.point → is_top tops row.point ≡ true) → Tops (take (count + 1) rows) tops
Tops-next rows count row tops within is h top =
    subst (λ (l : List MountRow). Tops l tops) (ap (λ (x : MountRow). take count rows ++ x ∷ []) is ∙ sym (take_more rows count row within)) (Tops-push (take count rows) row tops h top)

-- the same, with its mark set
pub Tops-marked : (rows : List MountRow) (count : ℕ) (row : MountRow) (tops : List Bool) (place : ℕ) → count < length rows → row ≡ get_or rows count row → place < length tops → get_or row.point 1 0 ≡ place → Tops (take count rows) tops → Tops (take (count + 1) rows) (set tops place true)
Tops-marked rows count row tops place within is room top h =
    Tops-next rows count row (set tops place true) within is (Tops-set (take count rows) tops place room h) (λ _. top_set_here tops place row.point room top)

-- the same, where it has no second byte
pub Tops-short : (rows : List MountRow) (count : ℕ) (row : MountRow) (tops : List Bool) → count < length rows → row ≡ get_or rows count row → length row.point ≤ 1 → Tops (take count rows) tops → Tops (take (count + 1) rows) tops
Tops-short rows count row tops within is short h = Tops-next rows count row tops within is h (λ long. absurd (omega arith))
