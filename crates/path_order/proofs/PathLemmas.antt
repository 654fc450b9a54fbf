-- Normal paths and their lists of names.
use Rattle.std.proofs.Common.{◌≡◌, ℕ, zero, suc, ◌<◌, ◌≤◌, List, [], ◌∷◌, ◌++◌, length, get_or, refl, sym, ◌∙◌, ap, append_assoc, arith, Bool, true, false, not, ◌&&◌, ◌||◌, nat_le}
use Rattle.std.proofs.lemmas.Bool.Decides.{nat_tests}
use Rattle.std.proofs.lemmas.List.{append-nil}
use Rattle.std.proofs.lemmas.List.Splits.{slice_split_at, slice_split_none, join_with_byte-slice_split}
use Rattle.std.specs.List.{All, list_all, list_any, slice_split, join_with_byte}
use Rattle.path_order.specs.Names.{is_name}
use Rattle.path_order.specs.Path.{is_slash, joined, slashed, path_of, comps, begins_at_root, is_normal}

-- what `&&` and `||` say of their parts
pub first_of : (a b : Bool) → (a && b) ≡ true → a ≡ true
first_of true b e = refl
first_of false b e = cc

pub second_of : (a b : Bool) → (a && b) ≡ true → b ≡ true
second_of true b e = e
second_of false b e = cc

pub both : {a b : Bool} → a ≡ true → b ≡ true → (a && b) ≡ true
both {a} {b} e f = cc

pub neither_first : (a b : Bool) → not (a || b) ≡ true → a ≡ false
neither_first true b e = cc
neither_first false b e = refl

pub neither_second : (a b : Bool) → not (a || b) ≡ true → not b ≡ true
neither_second true b e = cc
neither_second false b e = e

-- no byte passes where none is found
none_passes : (p : ℕ → Bool) (text : List ℕ) → not (list_any p text) ≡ true → (k d : ℕ) → k < length text → p (get_or text k d) ≡ false
none_passes p [] e k d h = absurd (omega arith)
none_passes p (x ∷ text) e zero d h = neither_first (p x) (list_any p text) e
none_passes p (x ∷ text) e (suc k) d h = none_passes p text (neither_second (p x) (list_any p text) e) k d (omega arith)

-- a name holds no slash
pub without_slash : (name : List ℕ) → is_name name ≡ true → All (λ b. is_slash b ≡ false) name
without_slash name e = none_passes is_slash name (second_of _ _ (first_of _ _ (first_of _ _ (first_of _ _ e))))

-- the parts of names that are joined by slashes
parts_of : (name : List ℕ) (names : List (List ℕ)) → list_all is_name (name ∷ names) ≡ true → slice_split is_slash (name ++ slashed names) ≡ name ∷ names
parts_of name [] e =
    ap (slice_split is_slash) (append-nil name) ∙ slice_split_none is_slash name (without_slash name (first_of _ _ e))
parts_of name (next ∷ names) e =
    slice_split_at is_slash name 47 (next ++ slashed names) (without_slash name (first_of _ _ e)) refl ∙ ap (λ (parts : List (List ℕ)). name ∷ parts) (parts_of next names (second_of (is_name name) _ e))

-- one more name leaves all of them names
all_more : (names : List (List ℕ)) (name : List ℕ) → list_all is_name names ≡ true → is_name name ≡ true → list_all is_name (names ++ name ∷ []) ≡ true
all_more [] name e n = both n refl
all_more (first ∷ names) name e n = both (first_of _ _ e) (all_more names name (second_of _ _ e) n)

-- the components of the path that names make are these
pub comps-path_of : (names : List (List ℕ)) → list_all is_name names ≡ true → comps (path_of names) ≡ names
comps-path_of [] e = refl
comps-path_of ([] ∷ names) e = cc
comps-path_of ((byte ∷ name) ∷ names) e = parts_of (byte ∷ name) names e

-- slashes before the names are slashes between them, but for the first
slashed-joined : (name : List ℕ) (names : List (List ℕ)) → name ++ slashed names ≡ join_with_byte 47 (name ∷ names)
slashed-joined name [] = append-nil name
slashed-joined name (next ∷ names) = ap (λ (rest : List ℕ). name ++ 47 ∷ rest) (slashed-joined next names)

-- parts that make a text make the path of it after a slash
joins : (parts : List (List ℕ)) (byte : ℕ) (rest : List ℕ) → join_with_byte 47 parts ≡ byte ∷ rest → path_of parts ≡ 47 ∷ byte ∷ rest
joins [] byte rest e = cc
joins (name ∷ names) byte rest e = ap (λ (text : List ℕ). 47 ∷ text) (slashed-joined name names ∙ e)

-- what the test for a slash tells
is_47 : (x : ℕ) → is_slash x ≡ true → x ≡ 47
is_47 x e = grind (arith, nat_tests)

-- the components of a path from the root make it
pub path_of-comps : (path : List ℕ) → begins_at_root path ≡ true → path_of (comps path) ≡ path
path_of-comps [] e = cc
path_of-comps (x ∷ []) e = ap (λ (slash : ℕ). slash ∷ []) (sym (is_47 x e))
path_of-comps (x ∷ y ∷ rest) e =
    joins (slice_split is_slash (y ∷ rest)) y rest (join_with_byte-slice_split 47 (y ∷ rest)) ∙ ap (λ (slash : ℕ). slash ∷ y ∷ rest) (sym (is_47 x e))

-- a normal path is what its components make
pub path_is_made : (path : List ℕ) → is_normal path ≡ true → path_of (comps path) ≡ path
path_is_made path e = path_of-comps path (second_of _ _ (first_of _ _ e))

-- and these are names
pub comps_are_names : (path : List ℕ) → is_normal path ≡ true → list_all is_name (comps path) ≡ true
comps_are_names path e = second_of _ _ e

-- one more name is written after one more slash
slashed-append : (names : List (List ℕ)) (name : List ℕ) → slashed (names ++ name ∷ []) ≡ slashed names ++ 47 ∷ name
slashed-append [] name = ap (λ (text : List ℕ). 47 ∷ text) (append-nil name)
slashed-append (next ∷ names) name =
    ap (λ (text : List ℕ). 47 ∷ next ++ text) (slashed-append names name) ∙ ap (λ (text : List ℕ). 47 ∷ text) (sym (append_assoc next (slashed names) (47 ∷ name)))

-- one more name makes the path of that name in the directory
pub path_of-append : (names : List (List ℕ)) (name : List ℕ) → list_all is_name names ≡ true → path_of (names ++ name ∷ []) ≡ joined (path_of names) name
path_of-append [] name e = ap (λ (text : List ℕ). 47 ∷ text) (append-nil name)
path_of-append ([] ∷ names) name e = cc
path_of-append ((byte ∷ first) ∷ names) name e = slashed-append ((byte ∷ first) ∷ names) name

-- the components of a name's path
pub comps-joined : (path name : List ℕ) → is_normal path ≡ true → is_name name ≡ true → comps (joined path name) ≡ comps path ++ name ∷ []
comps-joined path name e n =
    ap (λ (text : List ℕ). comps (joined text name)) (sym (path_is_made path e))
    ∙ ap comps (sym (path_of-append (comps path) name (comps_are_names path e)))
    ∙ comps-path_of (comps path ++ name ∷ []) (all_more (comps path) name (comps_are_names path e) n)

-- names make a path from the root
pub begins : (names : List (List ℕ)) → begins_at_root (path_of names) ≡ true
begins [] = refl
begins (name ∷ names) = refl

-- a length within the limit passes its test
fits : (n : ℕ) → n ≤ 4096 → nat_le n 4096 ≡ true
fits n h = grind (arith, nat_tests)

-- the path of a name in a normal path is normal where it isn't too long
pub joined_is_normal : (path name : List ℕ) → is_normal path ≡ true → is_name name ≡ true → length (joined path name) ≤ 4096 → is_normal (joined path name) ≡ true
joined_is_normal path name e n short =
    let made : path_of (comps path ++ name ∷ []) ≡ joined path name = path_of-append (comps path) name (comps_are_names path e) ∙ ap (λ (text : List ℕ). joined text name) (path_is_made path e) in
    both (both (fits _ short) (ap begins_at_root (sym made) ∙ begins (comps path ++ name ∷ []))) (ap (list_all is_name) (comps-joined path name e n) ∙ all_more (comps path) name (comps_are_names path e) n)
