-- Paths and names as texts of a database.
use Rattle.std.proofs.Common.{◌≡◌, ℕ, zero, suc, ◌<◌, ◌≤◌, Bool, true, false, not, ◌||◌, ◌==◌, All, List, [], ◌∷◌, ◌++◌, length, subst, arith, length-append, leb-true, ltb-true, if◌then◌else◌}
use Rattle.std.proofs.lemmas.Bool.Decides.{nat_tests}
use Rattle.std.proofs.lemmas.List.Elements.{All-cons, All-append}
use Rattle.std.specs.List.{list_any, list_all}
use Rattle.path_order.specs.Names.{is_name}
use Rattle.path_order.specs.Path.{is_root, joined, slashed, path_of, comps, begins_at_root, is_normal}
use Rattle.path_order.proofs.PathLemmas.{first_of, second_of, path_is_made, comps_are_names, joined_is_normal}
use Rattle.byte_feed.specs.Field.{IsText}
use Rattle.tree_scan.specs.Admitted.{fits_in}

abbrev Plain : List ℕ → Type 0
Plain text = All (λ b. 0 < b) text

no_zero : (text : List ℕ) → not (list_any (λ b. b == 0) text) ≡ true → Plain text
no_zero [] e k d h = absurd (omega (arith, h))
no_zero (x ∷ text) e zero d h = by x e
  where
    by : (y : ℕ) → not (y == 0 || list_any (λ b. b == 0) text) ≡ true → 0 < y
    by y e = grind (arith, nat_tests)
no_zero (x ∷ text) e (suc k) d h = no_zero text (rest (x == 0) _ e) k d (omega (arith, h))
  where
    rest : (a b : Bool) → not (a || b) ≡ true → not b ≡ true
    rest true b e = cc
    rest false b e = e

plain_name : (name : List ℕ) → is_name name ≡ true → Plain name
plain_name name e = no_zero name (second_of _ _ (first_of _ _ (first_of _ _ e)))

long_name : (name : List ℕ) → is_name name ≡ true → 0 < length name
long_name name e = ltb-true _ _ (first_of _ _ (first_of _ _ (first_of _ _ (first_of _ _ e))))

plain_slashed : (names : List (List ℕ)) → list_all is_name names ≡ true → Plain (slashed names)
plain_slashed [] e = λ k d h. absurd (omega (arith, h))
plain_slashed (name ∷ names) e =
    All-cons (λ (b : ℕ). 0 < b) 47 (name ++ slashed names) (omega arith) (All-append (λ (b : ℕ). 0 < b) name (slashed names) (plain_name name (first_of _ _ e)) (plain_slashed names (second_of (is_name name) _ e)))

plain_path : (names : List (List ℕ)) → list_all is_name names ≡ true → Plain (path_of names)
plain_path [] e = All-cons (λ (b : ℕ). 0 < b) 47 [] (omega arith) (λ k d h. absurd (omega (arith, h)))
plain_path (name ∷ names) e = plain_slashed (name ∷ names) e

long_path : (path : List ℕ) → begins_at_root path ≡ true → 0 < length path
long_path [] e = cc
long_path (x ∷ path) e = omega arith

-- a normal path has a byte, and at most 4,096
pub normal_long : (path : List ℕ) → is_normal path ≡ true → 0 < length path
normal_long path e = long_path path (second_of _ _ (first_of _ _ e))

pub normal_fits : (path : List ℕ) → is_normal path ≡ true → length path ≤ 4096
normal_fits path e = leb-true _ _ (first_of _ _ (first_of _ _ e))

pub normal_text : (path : List ℕ) → is_normal path ≡ true → IsText 4096 path
normal_text path e = record { some = normal_long path e; fits = normal_fits path e; plain = subst Plain (path_is_made path e) (plain_path (comps path) (comps_are_names path e)) }

long_joined : (path name : List ℕ) → length name ≤ length (joined path name)
long_joined path name = by (is_root path)
  where
    by : (b : Bool) → length name ≤ length (if b then path ++ name else path ++ 47 ∷ name)
    by true = omega (arith, length-append path name)
    by false = omega (arith, length-append path (47 ∷ name))

pub joined_fits : (path name : List ℕ) → fits_in path name ≡ true → length (joined path name) ≤ 4096
joined_fits path name e = leb-true _ _ (second_of (is_name name) _ e)

pub name_text : (path name : List ℕ) → fits_in path name ≡ true → IsText 4096 name
name_text path name e =
    let named = first_of _ _ e in
    record { some = long_name name named; fits = omega (arith, joined_fits path name e, long_joined path name); plain = plain_name name named }

-- the path of a name that fits is normal
pub child_normal : (path name : List ℕ) → is_normal path ≡ true → fits_in path name ≡ true → is_normal (joined path name) ≡ true
child_normal path name e f = joined_is_normal path name e (first_of _ _ f) (joined_fits path name f)
