-- The parent and the base name of a normal path.
use Rattle.std.proofs.Common.{◌≡◌, ℕ, zero, suc, ◌+◌, ◌<◌, ◌≤◌, List, [], ◌∷◌, ◌++◌, length, get_or, take, drop, refl, sym, ◌∙◌, ap, subst, arith, length-append, Bool, true, false, not, cond, nat_le}
use Rattle.std.proofs.lemmas.Bool.Decides.{nat_tests}
use Rattle.std.proofs.lemmas.List.Sums.{suffix_len_is}
use Rattle.std.proofs.Math.Seq.{drop-append-add, take-append_seam}
use Rattle.std.specs.List.{All, list_all, suffix_len, before_last}
use Rattle.path_order.specs.Names.{is_name}
use Rattle.path_order.specs.Path.{is_slash, is_root, joined, path_of, comps, is_normal, base_of, or_root, parent_of}
use Rattle.path_order.proofs.PathLemmas.{first_of, second_of, both, without_slash, comps-path_of, path_is_made, comps_are_names, path_of-append, begins}

-- past the slash no byte of the last part is one
after_slash : (front last : List ℕ) → All (λ b. is_slash b ≡ false) last → (k : ℕ) → length front + 1 ≤ k → k < length (front ++ 47 ∷ last) → not (is_slash (get_or (front ++ 47 ∷ last) k 0)) ≡ true
after_slash [] last none zero from to = absurd (omega arith)
after_slash [] last none (suc k) from to = ap not (none k 0 (omega arith))
after_slash (x ∷ front) last none zero from to = absurd (omega arith)
after_slash (x ∷ front) last none (suc k) from to = after_slash front last none k (omega arith) (omega arith)

-- the byte between the two parts is a slash
at_slash : (front last : List ℕ) → get_or (front ++ 47 ∷ last) (length front) 0 ≡ 47
at_slash [] last = refl
at_slash (x ∷ front) last = at_slash front last

-- the last part is all that stands after the last slash
base_len : (front last : List ℕ) → All (λ b. is_slash b ≡ false) last → suffix_len (λ b. not (is_slash b)) (front ++ 47 ∷ last) ≡ length last
base_len front last none =
    let is = suffix_len_is (λ b. not (is_slash b)) (front ++ 47 ∷ last) (length front + 1) 0 (omega (arith, length-append front (47 ∷ last))) (after_slash front last none) (λ _. ap (λ (n : ℕ). not (is_slash (get_or (front ++ 47 ∷ last) n 0))) (omega arith) ∙ ap (λ (b : ℕ). not (is_slash b)) (at_slash front last)) in
    omega (arith, is, length-append front (47 ∷ last))

-- what stands after the last slash, and before it
base_at : (front last : List ℕ) → All (λ b. is_slash b ≡ false) last → base_of (front ++ 47 ∷ last) ≡ last
base_at front last none =
    ap (λ (n : ℕ). drop n (front ++ 47 ∷ last)) (omega (arith, base_len front last none, length-append front (47 ∷ last))) ∙ drop-append-add front (47 ∷ last) 1

front_at : (front last : List ℕ) → All (λ b. is_slash b ≡ false) last → before_last is_slash (front ++ 47 ∷ last) ≡ front
front_at front last none =
    ap (λ (n : ℕ). take n (front ++ 47 ∷ last)) (omega (arith, base_len front last none, length-append front (47 ∷ last))) ∙ take-append_seam front (47 ∷ last)

-- the base of a name's path is the name
base-joined : (names : List (List ℕ)) (name : List ℕ) → list_all is_name names ≡ true → is_name name ≡ true → base_of (joined (path_of names) name) ≡ name
base-joined [] name e n = base_at [] name (without_slash name n)
base-joined ([] ∷ names) name e n = cc
base-joined ((byte ∷ first) ∷ names) name e n = base_at (path_of ((byte ∷ first) ∷ names)) name (without_slash name n)

-- a path is never empty
or_root_of : (names : List (List ℕ)) (text : List ℕ) → text ≡ path_of names → or_root text ≡ path_of names
or_root_of [] text e = ap or_root e
or_root_of (name ∷ names) text e = ap or_root e

-- its parent is the directory
parent-joined : (names : List (List ℕ)) (name : List ℕ) → list_all is_name names ≡ true → is_name name ≡ true → parent_of (joined (path_of names) name) ≡ path_of names
parent-joined [] name e n = ap or_root (front_at [] name (without_slash name n))
parent-joined ([] ∷ names) name e n = cc
parent-joined ((byte ∷ first) ∷ names) name e n = or_root_of ((byte ∷ first) ∷ names) _ (front_at (path_of ((byte ∷ first) ∷ names)) name (without_slash name n))

-- a list of names that isn't empty has a last one
record HasLast (names : List (List ℕ)) : Type 0 where
  front : List (List ℕ)
  last : List ℕ
  whole : names ≡ front ++ last ∷ []
  front_names : list_all is_name front ≡ true
  last_name : is_name last ≡ true

has_last : (name : List ℕ) (names : List (List ℕ)) → list_all is_name (name ∷ names) ≡ true → HasLast (name ∷ names)
has_last name [] e = record { front = []; last = name; whole = refl; front_names = refl; last_name = first_of _ _ e }
has_last name (next ∷ names) e =
    let rest = has_last next names (second_of _ _ e) in
    record {
      front = name ∷ rest.front;
      last = rest.last;
      whole = ap (λ (more : List (List ℕ)). name ∷ more) rest.whole;
      front_names = both (first_of _ _ e) rest.front_names;
      last_name = rest.last_name;
    }

-- a normal path below the root has a last component
has_last_name : (names : List (List ℕ)) (path : List ℕ) → path_of names ≡ path → is_root path ≡ false → list_all is_name names ≡ true → HasLast names
has_last_name [] path e other all = absurd (let w : true ≡ false = ap is_root e ∙ other in cc)
has_last_name (name ∷ names) path e other all = has_last name names all

-- what a normal path below the root is made of
pub record HasParent (path : List ℕ) : Type 0 where
  pub joined_again : joined (parent_of path) (base_of path) ≡ path
  pub components : comps path ≡ comps (parent_of path) ++ base_of path ∷ []
  pub parent_is_normal : is_normal (parent_of path) ≡ true
  pub base_is_name : is_name (base_of path) ≡ true

-- a directory's path isn't longer than that of a name in it
not_longer : (path name : List ℕ) → length path ≤ length (joined path name)
not_longer [] name = omega arith
not_longer (x ∷ []) name = by (is_slash x)
  where
    by : (b : Bool) → length (x ∷ []) ≤ length (cond b (x ∷ [] ++ name) (x ∷ [] ++ 47 ∷ name))
    by true = omega arith
    by false = omega arith
not_longer (x ∷ y ∷ rest) name = omega (arith, length-append rest (47 ∷ name))

-- less passes where more does
le_test : (a b : ℕ) → nat_le a b ≡ true → (c : ℕ) → c ≤ a → nat_le c b ≡ true
le_test a b e c h = grind (arith, nat_tests)

-- a path whose directory and name are known has these as its parent and base
made_of : (path : List ℕ) (front : List (List ℕ)) (last : List ℕ) → is_normal path ≡ true → path ≡ joined (path_of front) last → comps path ≡ front ++ last ∷ [] → list_all is_name front ≡ true → is_name last ≡ true → HasParent path
made_of path front last e whole parts names name =
    let parent : parent_of path ≡ path_of front = ap parent_of whole ∙ parent-joined front last names name in
    let base : base_of path ≡ last = ap base_of whole ∙ base-joined front last names name in
    record {
      joined_again = (λ i. joined (parent i) (base i)) ∙ sym whole;
      components = parts ∙ ap (λ (ns : List (List ℕ)). ns ++ last ∷ []) (sym (comps-path_of front names)) ∙ (λ i. comps (sym parent i) ++ sym base i ∷ []);
      parent_is_normal = ap is_normal parent ∙ both (both (le_test _ 4096 (first_of _ _ (first_of _ _ e)) _ (subst (λ (p : List ℕ). length (path_of front) ≤ length p) (sym whole) (not_longer (path_of front) last))) (begins front)) (ap (list_all is_name) (comps-path_of front names) ∙ names);
      base_is_name = ap is_name base ∙ name;
    }

-- every normal path below the root is made of both
pub has_parent : (path : List ℕ) → is_normal path ≡ true → is_root path ≡ false → HasParent path
has_parent path e below =
    let l = has_last_name (comps path) path (path_is_made path e) below (comps_are_names path e) in
    made_of path l.front l.last e (sym (path_is_made path e) ∙ ap path_of l.whole ∙ path_of-append l.front l.last l.front_names) l.whole l.front_names l.last_name
