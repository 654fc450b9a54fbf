-- Whether a path is normal that begins as a normal one does, up to the slash before its name.
use Rattle.std.proofs.Common.{◌≡◌, ℕ, zero, suc, ◌+◌, ◌-◌, ◌<◌, ◌≤◌, Bool, true, false, not, nat_le, List, [], ◌∷◌, ◌++◌, length, get_or, take, drop, refl, sym, ap, subst, ◌∙◌, arith, length-drop, get_or-take}
use Rattle.std.specs.Prelude.{◌&&◌}
use Rattle.std.specs.Str.{bytes_eq}
use Rattle.std.proofs.lemmas.Slice.Eq.{bytes_eq-Decides}
use Rattle.byte_feed.proofs.CommonPrefix.{left_of}
use Rattle.std.specs.List.{All, list_all, onto_first, slice_split}
use Rattle.std.proofs.lemmas.Bool.Decides.{nat_tests}
use Rattle.std.proofs.lemmas.List.{get_or_default, get_or-drop}
use Rattle.std.proofs.lemmas.List.Folds.{list_all-append}
use Rattle.std.proofs.lemmas.List.Splits.{length-slice_split, slice_split_none, slice_split-cons_yes, slice_split-cons_no}
use Rattle.path_order.specs.Names.{is_name}
use Rattle.path_order.specs.Path.{is_slash, is_root, is_normal}
use Rattle.path_order.specs.NameStarts.{IsNameStart}
use Rattle.db_convert.proofs.Directories.{first, second}

-- ---- a text is split at each slash

onto_append : (x : ℕ) (ps qs : List (List ℕ)) → 0 < length ps → onto_first x (ps ++ qs) ≡ onto_first x ps ++ qs
onto_append x [] qs some = absurd (omega (arith, some))
onto_append x (p ∷ ps) qs some = refl

split_more : (x : ℕ) (u v : List ℕ) (slash : Bool) → is_slash x ≡ slash → slice_split is_slash (u ++ 47 ∷ v) ≡ slice_split is_slash u ++ slice_split is_slash v → slice_split is_slash (x ∷ u ++ 47 ∷ v) ≡ slice_split is_slash (x ∷ u) ++ slice_split is_slash v
split_more x u v true is go =
    slice_split-cons_yes is_slash x (u ++ 47 ∷ v) is ∙ ap (λ (parts : List (List ℕ)). [] ∷ parts) go ∙ ap (λ (parts : List (List ℕ)). parts ++ slice_split is_slash v) (sym (slice_split-cons_yes is_slash x u is))
split_more x u v false is go =
    slice_split-cons_no is_slash x (u ++ 47 ∷ v) is ∙ ap (onto_first x) go
    ∙ onto_append x (slice_split is_slash u) (slice_split is_slash v) (omega (arith, length-slice_split is_slash u))
    ∙ ap (λ (parts : List (List ℕ)). parts ++ slice_split is_slash v) (sym (slice_split-cons_no is_slash x u is))

split_at : (u v : List ℕ) → slice_split is_slash (u ++ 47 ∷ v) ≡ slice_split is_slash u ++ slice_split is_slash v
split_at [] v = slice_split-cons_yes is_slash 47 v refl
split_at (x ∷ u) v = split_more x u v (is_slash x) refl (split_at u v)

-- ---- the tests

-- The last name is left to be tested, where the others are names.
left_over : (fits name : Bool) → (fits && name) ≡ ((fits && true && (name && true)) && true)
left_over true true = refl
left_over true false = refl
left_over false true = refl
left_over false false = refl

is_rooted : (x y : ℕ) (rest : List ℕ) → is_root (x ∷ y ∷ rest) ≡ false
is_rooted x y rest = refl

in_root : (name : List ℕ) → All (λ b. is_slash b ≡ false) name → (nat_le (length (47 ∷ name)) 4096 && is_name name) ≡ (is_normal (47 ∷ name) && not (is_root (47 ∷ name)))
in_root [] none = refl
in_root (x ∷ name) none =
    left_over (nat_le (length (47 ∷ x ∷ name)) 4096) (is_name (x ∷ name))
    ∙ ap (λ (parts : List (List ℕ)). (nat_le (length (47 ∷ x ∷ name)) 4096 && true && list_all is_name parts) && true) (sym (slice_split_none is_slash (x ∷ name) none))

-- what stands between the slashes of a normal path before one of them
names_before : (u rest : List ℕ) → is_normal (47 ∷ u ++ 47 ∷ rest) ≡ true → list_all is_name (slice_split is_slash u) ≡ true
names_before [] rest normal = first (list_all is_name (slice_split is_slash [])) (list_all is_name (slice_split is_slash rest)) (sym (list_all-append is_name (slice_split is_slash []) (slice_split is_slash rest)) ∙ ap (list_all is_name) (sym (split_at [] rest)) ∙ second _ _ normal)
names_before (x ∷ u) rest normal = first (list_all is_name (slice_split is_slash (x ∷ u))) (list_all is_name (slice_split is_slash rest)) (sym (list_all-append is_name (slice_split is_slash (x ∷ u)) (slice_split is_slash rest)) ∙ ap (list_all is_name) (sym (split_at (x ∷ u) rest)) ∙ second _ _ normal)

all_names : (u name : List ℕ) → list_all is_name (slice_split is_slash u) ≡ true → All (λ b. is_slash b ≡ false) name → list_all is_name (slice_split is_slash (u ++ 47 ∷ name)) ≡ (is_name name && true)
all_names u name names none =
    ap (list_all is_name) (split_at u name)
    ∙ list_all-append is_name (slice_split is_slash u) (slice_split is_slash name)
    ∙ (λ i. names i && list_all is_name (slice_split_none is_slash name none i))

below : (u name : List ℕ) → list_all is_name (slice_split is_slash u) ≡ true → All (λ b. is_slash b ≡ false) name → (nat_le (length (47 ∷ u ++ 47 ∷ name)) 4096 && is_name name) ≡ (is_normal (47 ∷ u ++ 47 ∷ name) && not (is_root (47 ∷ u ++ 47 ∷ name)))
below [] name names none =
    left_over (nat_le (length (47 ∷ 47 ∷ name)) 4096) (is_name name) ∙ ap (λ (all : Bool). (nat_le (length (47 ∷ 47 ∷ name)) 4096 && true && all) && true) (sym (all_names [] name names none))
below (x ∷ u) name names none =
    left_over (nat_le (length (47 ∷ x ∷ u ++ 47 ∷ name)) 4096) (is_name name)
    ∙ ap (λ (all : Bool). (nat_le (length (47 ∷ x ∷ u ++ 47 ∷ name)) 4096 && true && all) && true) (sym (all_names (x ∷ u) name names none))

-- ---- a path that begins as a normal one does

-- a text by a slash in it
at_slash : (text : List ℕ) (n : ℕ) → n < length text → get_or text n 0 ≡ 47 → text ≡ take n text ++ 47 ∷ drop (n + 1) text
at_slash [] n lt is = absurd (omega (arith, lt))
at_slash (x ∷ text) zero lt is = ap (λ (b : ℕ). b ∷ text) is
at_slash (x ∷ text) (suc n) lt is =
    ap (λ (t : List ℕ). x ∷ t) (at_slash text n (omega (arith, lt)) is) ∙ ap (λ (k : ℕ). x ∷ take n text ++ 47 ∷ drop k (x ∷ text)) {x = suc (n + 1)} {y = suc n + 1} (omega arith)

same_at : (a b : List ℕ) (n k : ℕ) → k < n → take n a ≡ take n b → get_or a k 0 ≡ get_or b k 0
same_at a b n k lt same = sym (get_or-take n a k 0 lt) ∙ ap (λ (l : List ℕ). get_or l k 0) same ∙ get_or-take n b k 0 lt

take_less : (m : ℕ) (a b : List ℕ) → take (suc m) a ≡ take (suc m) b → take m a ≡ take m b
take_less zero a b same = refl
take_less (suc m) [] [] same = refl
take_less (suc m) [] (y ∷ b) same = absurd cc
take_less (suc m) (x ∷ a) [] same = absurd cc
take_less (suc m) (x ∷ a) (y ∷ b) same = λ i. get_or (same i) 0 0 ∷ take_less m a b (ap (drop 1) same) i

is_47 : (x : ℕ) → is_slash x ≡ true → x ≡ 47
is_47 x e = grind (arith, nat_tests)

none_from : (path : List ℕ) (start : ℕ) → IsNameStart path start → All (λ b. is_slash b ≡ false) (drop start path)
none_from path start is k d lt =
    let within : start + k < length path = omega (arith, lt, length-drop start path, is.within) in
    ap is_slash (get_or-drop start path k d ∙ get_or_default path (start + k) d 0 within) ∙ is.after (start + k) (omega arith) within

by_parts : (bt pt : List ℕ) (m : ℕ) → is_normal (47 ∷ bt) ≡ true → m < length bt → m < length pt → get_or pt m 0 ≡ 47 → take (suc m) bt ≡ take (suc m) pt → All (λ b. is_slash b ≡ false) (drop (m + 1) pt) → (nat_le (length (47 ∷ pt)) 4096 && is_name (drop (m + 1) pt)) ≡ (is_normal (47 ∷ pt) && not (is_root (47 ∷ pt)))
by_parts bt pt m normal in_bt in_pt slash same none =
    let before : bt ≡ take m bt ++ 47 ∷ drop (m + 1) bt = at_slash bt m in_bt (same_at bt pt (suc m) m (omega arith) same ∙ slash) in
    let whole : pt ≡ take m pt ++ 47 ∷ drop (m + 1) pt = at_slash pt m in_pt slash in
    let names : list_all is_name (slice_split is_slash (take m bt)) ≡ true = names_before (take m bt) (drop (m + 1) bt) (ap (λ (t : List ℕ). is_normal (47 ∷ t)) (sym before) ∙ normal) in
    let here : list_all is_name (slice_split is_slash (take m pt)) ≡ true = ap (λ (t : List ℕ). list_all is_name (slice_split is_slash t)) (sym (take_less m bt pt same)) ∙ names in
    ap (λ (t : List ℕ). nat_le (length (47 ∷ t)) 4096 && is_name (drop (m + 1) pt)) whole
    ∙ below (take m pt) (drop (m + 1) pt) here none
    ∙ ap (λ (t : List ℕ). is_normal (47 ∷ t) && not (is_root (47 ∷ t))) (sym whole)

from_47 : (x y : ℕ) (bt pt : List ℕ) (m : ℕ) → x ≡ 47 → y ≡ 47 → is_normal (x ∷ bt) ≡ true → m < length bt → m < length pt → get_or pt m 0 ≡ 47 → take (suc m) bt ≡ take (suc m) pt → All (λ b. is_slash b ≡ false) (drop (m + 1) pt) → (nat_le (length (y ∷ pt)) 4096 && is_name (drop (m + 1) pt)) ≡ (is_normal (y ∷ pt) && not (is_root (y ∷ pt)))
from_47 x y bt pt m is_x is_y normal in_bt in_pt slash same none =
    ap (λ (b : ℕ). nat_le (length (b ∷ pt)) 4096 && is_name (drop (m + 1) pt)) is_y
    ∙ by_parts bt pt m (ap (λ (b : ℕ). is_normal (b ∷ bt)) (sym is_x) ∙ normal) in_bt in_pt slash same none
    ∙ ap (λ (b : ℕ). is_normal (b ∷ pt) && not (is_root (b ∷ pt))) (sym is_y)

next_admitted : (before path : List ℕ) (start : ℕ) → (is_normal before && not (is_root before)) ≡ true → IsNameStart path start → 0 < start → start ≤ length before → take start before ≡ take start path → (nat_le (length path) 4096 && is_name (drop start path)) ≡ (is_normal path && not (is_root path))
next_admitted [] path start normal is some within same = absurd (omega (arith, some, within))
next_admitted (x ∷ bt) [] start normal is some within same = absurd (omega (arith, some, is.within))
next_admitted (x ∷ bt) (y ∷ pt) zero normal is some within same = absurd (omega (arith, some))
next_admitted (x ∷ bt) (y ∷ pt) (suc zero) normal is some within same =
    let is_y : y ≡ 47 = is.slash some in
    ap (λ (b : ℕ). nat_le (length (b ∷ pt)) 4096 && is_name pt) is_y ∙ in_root pt (none_from (y ∷ pt) 1 is) ∙ ap (λ (b : ℕ). is_normal (b ∷ pt) && not (is_root (b ∷ pt))) (sym is_y)
next_admitted (x ∷ bt) (y ∷ pt) (suc (suc m)) normal is some within same =
    let normal_before : is_normal (x ∷ bt) ≡ true = first _ _ normal in
    let is_x : x ≡ 47 = is_47 x (second _ _ (first _ _ normal_before)) in
    let is_y : y ≡ 47 = ap (λ (l : List ℕ). get_or l 0 0) (sym same) ∙ is_x in
    let len = is.within in
    let slash : get_or pt m 0 ≡ 47 = ap (λ (n : ℕ). get_or (y ∷ pt) n 0) {x = suc m} {y = suc (suc m) - 1} (omega arith) ∙ is.slash some in
    let at : drop (suc m) pt ≡ drop (m + 1) pt = ap (λ (n : ℕ). drop n pt) {x = suc m} {y = m + 1} (omega arith) in
    ap (λ (t : List ℕ). nat_le (length (y ∷ pt)) 4096 && is_name t) at
    ∙ from_47 x y bt pt m is_x is_y normal_before (omega (arith, within)) (omega (arith, len)) slash (ap (drop 1) same) (subst (λ (t : List ℕ). All (λ b. is_slash b ≡ false) t) at (none_from (y ∷ pt) (suc (suc m)) is))

not_false : (b : Bool) → not b ≡ false → b ≡ true
not_false true e = refl
not_false false e = absurd cc

-- the same as the code tests it
pub admitted_by_name : (before path : List ℕ) (start : ℕ) (differs name : Bool) → (is_normal before && not (is_root before)) ≡ true → IsNameStart path start → 0 < start → start ≤ length before → differs ≡ false → differs ≡ not (bytes_eq (take start before) (take start path)) → name ≡ is_name (take (length path - start) (drop start path)) → length path ≤ 4096 → name ≡ (is_normal path && not (is_root path))
admitted_by_name before path start differs name normal is some within off told named short =
    let same : take start before ≡ take start path = (bytes_eq-Decides (take start before) (take start path)).0 (not_false _ (sym told ∙ off)) in
    let fits : nat_le (length path) 4096 ≡ true = grind (arith, nat_tests) in
    named ∙ ap is_name (left_of start path) ∙ ap (λ (b : Bool). b && is_name (drop start path)) (sym fits) ∙ next_admitted before path start normal is some within same
