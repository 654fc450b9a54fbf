-- The paths of a sample's directories: they are normal, and each directory has its own.
use Rattle.std.proofs.Common.{◌≡◌, ℕ, zero, suc, ◌+◌, ◌*◌, ◌-◌, ◌/◌, ◌%◌, ◌<◌, ◌≤◌, ◌^◌, Bool, true, false, not, nat_lt, nat_le, drop, ◌&&◌, ◌||◌, ◌==◌, List, [], ◌∷◌, ◌++◌, length, decimal, refl, sym, ◌∙◌, ap, cond, arith, length-append}
use Rattle.std.specs.Prelude.{bytes_eq}
use Rattle.std.specs.List.{list_any, list_all}
use Rattle.std.proofs.lemmas.Bool.Decides.{nat_tests}
use Rattle.std.proofs.lemmas.Fmt.{decimal_by_steps, decimal_injective, length-decimal-le}
use Rattle.path_order.specs.Names.{is_name}
use Rattle.path_order.specs.Path.{path_of, joined, is_root, is_normal, comps, begins_at_root}
use Rattle.path_order.proofs.PathLemmas.{both, first_of, second_of, comps-path_of, path_of-append, joined_is_normal}
use Rattle.sample_trees.specs.Naming.{numbered, added_name, names_within, directory_path}

-- a text without the byte
abbrev Lacks : ℕ → List ℕ → Type 0
Lacks byte text = list_any (λ b. b == byte) text ≡ false

lacks-append : (byte : ℕ) (a b : List ℕ) → Lacks byte a → Lacks byte b → Lacks byte (a ++ b)
lacks-append byte [] b h k = k
lacks-append byte (x ∷ a) b h k =
    elim (x == byte) as (λ t. (t || list_any (λ c. c == byte) a) ≡ false → (t || list_any (λ c. c == byte) (a ++ b)) ≡ false) [
      | true ↦ λ e. e
      | false ↦ λ e. lacks-append byte a b e k
    ] h

not_same : (x y : ℕ) → y < x → (x == y) ≡ false
not_same x y less = grind (arith, nat_tests)

lacks-cons : (byte x : ℕ) (text : List ℕ) → byte < x → Lacks byte text → Lacks byte (x ∷ text)
lacks-cons byte x text less h = ap (λ (t : Bool). t || list_any (λ c. c == byte) text) (not_same x byte less) ∙ h

-- the bytes of a number in decimal are digits
pub lacks-decimal : (byte n : ℕ) → byte < 48 → n < 2 ^ 64 → Lacks byte (decimal n)
lacks-decimal byte n low small =
    decimal_by_steps (λ n ds. Lacks byte ds)
    (λ n one. lacks-cons byte (48 + n) [] (omega arith) refl)
    (λ n ds more h. lacks-append byte ds _ h (lacks-cons byte (48 + n % 10) [] (omega arith) refl))
    n small

not_empty : (n : ℕ) → nat_lt 0 (suc n) ≡ true
not_empty n = grind (arith, nat_tests)

-- a text that begins with a letter, with no slash and no byte 0, is a name
pub letter_name : (letter : ℕ) (rest : List ℕ) → 97 ≤ letter → Lacks 47 rest → Lacks 0 rest → is_name (letter ∷ rest) ≡ true
letter_name letter rest low slash zero_byte =
    let dot = not_same letter 46 (omega arith) in
    both (both (both (both (not_empty (length rest)) (ap not (lacks-cons 47 letter rest (omega arith) slash))) (ap not (lacks-cons 0 letter rest (omega arith) zero_byte)))
    (ap (λ (t : Bool). not (t && bytes_eq rest [])) dot))
    (ap (λ (t : Bool). not (t && bytes_eq rest (46 ∷ []))) dot)

pub numbered-is_name : (letter n : ℕ) → 97 ≤ letter → n < 2 ^ 64 → is_name (numbered letter n) ≡ true
unfolding numbered
numbered-is_name letter n low small = letter_name letter (decimal n) low (lacks-decimal 47 n (omega arith) small) (lacks-decimal 0 n (omega arith) small)

pub length-numbered : (letter n : ℕ) → n < 2 ^ 64 → length (numbered letter n) ≤ 21
unfolding numbered
length-numbered letter n small = let h = length-decimal-le 20 n (omega arith) (omega arith) small in omega arith

short_name : (letter n : ℕ) → n < 10000 → length (numbered letter n) ≤ 5
unfolding numbered
short_name letter n small = let h = length-decimal-le 4 n (omega arith) (omega arith) (omega arith) in omega arith

-- the bound of the recursion does not matter
pub same_names : (a b number : ℕ) → number ≤ a → number ≤ b → names_within a number ≡ names_within b number
same_names zero zero number h k = refl
same_names zero (suc b) zero h k = refl
same_names zero (suc b) (suc above) h k = absurd (omega arith)
same_names (suc a) zero zero h k = refl
same_names (suc a) zero (suc above) h k = absurd (omega arith)
same_names (suc a) (suc b) zero h k = refl
same_names (suc a) (suc b) (suc above) h k = ap (λ (names : List (List ℕ)). names ++ numbered 100 (suc above) ∷ []) (same_names a b (above / 8) (omega arith) (omega arith))

all_more : (names : List (List ℕ)) (name : List ℕ) → list_all is_name names ≡ true → is_name name ≡ true → list_all is_name (names ++ name ∷ []) ≡ true
all_more [] name e n = both n refl
all_more (first ∷ names) name e n = both (first_of _ _ e) (all_more names name (second_of (is_name first) _ e) n)

pub are_names : (bound number : ℕ) → number < 2 ^ 64 → list_all is_name (names_within bound number) ≡ true
are_names zero number small = refl
are_names (suc bound) zero small = refl
are_names (suc bound) (suc above) small = all_more (names_within bound (above / 8)) (numbered 100 (suc above)) (are_names bound (above / 8) (omega arith)) (numbered-is_name 100 (suc above) (omega arith) small)

-- a directory's path is that of its name in the directory above
pub directory_path-below : (above : ℕ) → suc above < 2 ^ 64 → directory_path (suc above) ≡ joined (directory_path (above / 8)) (numbered 100 (suc above))
unfolding directory_path
directory_path-below above small =
    path_of-append (names_within above (above / 8)) (numbered 100 (suc above)) (are_names above (above / 8) (omega arith))
    ∙ ap (λ (names : List (List ℕ)). joined (path_of names) (numbered 100 (suc above))) (same_names above (above / 8) (above / 8) (omega arith) (omega arith))

length-joined : (path name : List ℕ) → length (joined path name) ≤ length path + 1 + length name
length-joined path name =
    elim (is_root path) as (λ b. length (cond b (path ++ name) (path ++ 47 ∷ name)) ≤ length path + 1 + length name) [
      | true ↦ omega (arith, length-append path name)
      | false ↦ omega (arith, length-append path (47 ∷ name))
    ]

path_length : (bound number : ℕ) → number ≤ bound → number < 10000 → length (directory_path number) ≤ 1 + 6 * number
unfolding directory_path
path_length bound zero low small = omega arith
path_length zero (suc above) low small = absurd (omega arith)
path_length (suc bound) (suc above) low small =
    let e = ap (λ (p : List ℕ). length p) (directory_path-below above (omega arith)) in
    let j = length-joined (directory_path (above / 8)) (numbered 100 (suc above)) in
    let n = short_name 100 (suc above) small in
    let up = path_length bound (above / 8) (omega arith) (omega arith) in
    omega arith

-- the path of each directory is normal
normal_within : (bound number : ℕ) → number ≤ bound → number < 2001 → is_normal (directory_path number) ≡ true
unfolding directory_path
normal_within bound zero low small = refl
normal_within zero (suc above) low small = absurd (omega arith)
normal_within (suc bound) (suc above) low small =
    let e = directory_path-below above (omega arith) in
    let j = length-joined (directory_path (above / 8)) (numbered 100 (suc above)) in
    let n = short_name 100 (suc above) (omega arith) in
    let up = path_length (above / 8) (above / 8) (omega arith) (omega arith) in
    ap is_normal e ∙ joined_is_normal (directory_path (above / 8)) (numbered 100 (suc above)) (normal_within bound (above / 8) (omega arith) (omega arith)) (numbered-is_name 100 (suc above) (omega arith) (omega arith)) (omega arith)

pub directory_path-is_normal : (number : ℕ) → number < 2001 → is_normal (directory_path number) ≡ true
directory_path-is_normal number small = normal_within number number (omega arith) small

pub path_of_root : (number : ℕ) → number ≡ 0 → directory_path number ≡ 47 ∷ []
unfolding directory_path
path_of_root zero e = refl
path_of_root (suc above) e = absurd (omega arith)

pub path_of_below : (number : ℕ) → 0 < number → number < 2001 → directory_path number ≡ joined (directory_path ((number - 1) / 8)) (numbered 100 number)
path_of_below zero h small = absurd (omega arith)
path_of_below (suc above) h small =
    let e : above ≡ suc above - 1 = omega arith in
    directory_path-below above (omega arith) ∙ ap (λ (n : ℕ). joined (directory_path (n / 8)) (numbered 100 (suc above))) e

pub path_fits : (number : ℕ) → number < 2001 → length (directory_path number) ≤ 4096
path_fits number small = fits_limit (directory_path number) (directory_path-is_normal number small)
  where
    below_limit : (n : ℕ) → nat_le n 4096 ≡ true → n ≤ 4096
    below_limit n e = grind (arith, nat_tests)

    fits_limit : (path : List ℕ) → is_normal path ≡ true → length path ≤ 4096
    fits_limit path e = below_limit (length path) (first_of (nat_le (length path) 4096) (begins_at_root path) (first_of (nat_le (length path) 4096 && begins_at_root path) (list_all is_name (comps path)) e))

-- the last of some names
last_of : List (List ℕ) → List ℕ
last_of [] = []
last_of (x ∷ []) = x
last_of (x ∷ y ∷ names) = last_of (y ∷ names)

last_of-append : (names : List (List ℕ)) (name : List ℕ) → last_of (names ++ name ∷ []) ≡ name
unfolding last_of
last_of-append [] name = refl
last_of-append (x ∷ []) name = refl
last_of-append (x ∷ y ∷ names) name = last_of-append (y ∷ names) name

none_with : (names : List (List ℕ)) (name : List ℕ) → [] ≡ names ++ name ∷ [] → ⊥
none_with [] name e = cc
none_with (x ∷ names) name e = cc

same_number : (a b : ℕ) → a < 2 ^ 64 → b < 2 ^ 64 → numbered 100 a ≡ numbered 100 b → a ≡ b
unfolding numbered
same_number a b low small e = decimal_injective a b low small (ap (drop 1) e)

names_tell : (a b : ℕ) → a < 2 ^ 64 → b < 2 ^ 64 → names_within a a ≡ names_within b b → a ≡ b
names_tell zero zero low small e = refl
names_tell zero (suc b) low small e = absurd (none_with (names_within b (b / 8)) (numbered 100 (suc b)) e)
names_tell (suc a) zero low small e = absurd (none_with (names_within a (a / 8)) (numbered 100 (suc a)) (sym e))
names_tell (suc a) (suc b) low small e =
    same_number (suc a) (suc b) low small
    (sym (last_of-append (names_within a (a / 8)) (numbered 100 (suc a))) ∙ ap last_of e ∙ last_of-append (names_within b (b / 8)) (numbered 100 (suc b)))

-- each directory has a path of its own
pub directory_path_injective : (a b : ℕ) → a < 2 ^ 64 → b < 2 ^ 64 → directory_path a ≡ directory_path b → a ≡ b
unfolding directory_path
directory_path_injective a b low small e =
    names_tell a b low small (sym (comps-path_of (names_within a a) (are_names a a low)) ∙ ap comps e ∙ comps-path_of (names_within b b) (are_names b b small))

-- the name of a file that an edit adds
pub added_name-is_name : (round edit : ℕ) → round < 2 ^ 64 → edit < 2 ^ 64 → is_name (added_name round edit) ≡ true
unfolding added_name numbered
added_name-is_name round edit low small =
    letter_name 110 (decimal round ++ 95 ∷ decimal edit) (omega arith)
    (lacks-append 47 (decimal round) (95 ∷ decimal edit) (lacks-decimal 47 round (omega arith) low) (lacks-cons 47 95 (decimal edit) (omega arith) (lacks-decimal 47 edit (omega arith) small)))
    (lacks-append 0 (decimal round) (95 ∷ decimal edit) (lacks-decimal 0 round (omega arith) low) (lacks-cons 0 95 (decimal edit) (omega arith) (lacks-decimal 0 edit (omega arith) small)))
