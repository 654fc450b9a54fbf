-- Paths and the names between their slashes.
use Rattle.std.proofs.Common.{◌≡◌, ℕ, zero, suc, ◌<◌, ◌≤◌, Bool, true, false, ◌&&◌, ◌||◌, nat_eq, List, [], ◌∷◌, ◌++◌, length, drop, All, refl, sym, ◌∙◌, ap, subst, arith, true≢false, append_assoc, length-append, if◌then◌else◌}
use Rattle.std.proofs.lemmas.Bool.Decides.{Decides-eqb}
use Rattle.std.proofs.lemmas.List.Splits.{slice_split_at, slice_split_none, join_with_byte-slice_split}
use Rattle.std.proofs.lemmas.Slice.Eq.{starts_is}
use Rattle.std.specs.List.{list_any, slice_split, join_with_byte, starts_with}
use Rattle.std.specs.Str.{bytes_eq}
use Rattle.std.specs.Cmp.Lexicographic.{bytes_decides}
use Rattle.path_order.specs.Path.{is_root, is_slash, joined}
use Rattle.loc_outside.specs.Trees.{Dir, Dirs}
use Rattle.mlocate_db.specs.Items.{in_directory}
use Rattle.tree_scan.specs.Reach.{Test, leads, is_led}
use Rattle.tree_scan.proofs.Lists.{Each}
use Rattle.tree_scan.proofs.Order.{NoSlash}
use Rattle.tree_scan.proofs.WalkRecursion.{joined_is}
use Rattle.tree_scan.proofs.Sorted.{joined_no_root}
use Rattle.tree_scan.proofs.Members.{path_by, IsFine, Led, leads_good}

-- the text of names with slashes between them
abbrev pub text_of : List ℕ → List (List ℕ) → List ℕ
text_of n ns = join_with_byte 47 (n ∷ ns)

other_first : (a b : Bool) → (a || b) ≡ false → a ≡ false
other_first true b e = cc
other_first false b e = refl

other_rest : (a b : Bool) → (a || b) ≡ false → b ≡ false
other_rest true b e = cc
other_rest false b e = e

none_slash : (n : List ℕ) → NoSlash n → All (λ b. is_slash b ≡ false) n
none_slash [] e k d h = absurd (omega arith)
none_slash (x ∷ n) e zero d h = other_first (is_slash x) (list_any is_slash n) e
none_slash (x ∷ n) e (suc k) d h = none_slash n (other_rest (is_slash x) (list_any is_slash n) e) k d (omega arith)

pub parts_text : (n : List ℕ) (ns : List (List ℕ)) → NoSlash n → Each IsFine ns → slice_split is_slash (text_of n ns) ≡ n ∷ ns
parts_text n [] h all = slice_split_none is_slash n (none_slash n h)
parts_text n (m ∷ ms) h all = slice_split_at is_slash n 47 (text_of m ms) (none_slash n h) refl ∙ ap (λ (l : List (List ℕ)). n ∷ l) (parts_text m ms all.0.slash all.1)

-- names under a path
pub path_by_text : (path n : List ℕ) (ns : List (List ℕ)) → 0 < length n → Each IsFine ns → path_by (joined path n) ns ≡ in_directory path ++ text_of n ns
path_by_text path n [] h all = joined_is path n
path_by_text path n (m ∷ ms) h all =
    path_by_text (joined path n) m ms all.0.long all.1
    ∙ ap (λ (b : Bool). (if b then joined path n else joined path n ++ 47 ∷ []) ++ text_of m ms) (joined_no_root path n h)
    ∙ append_assoc (joined path n) (47 ∷ []) (text_of m ms)
    ∙ ap (λ (l : List ℕ). l ++ 47 ∷ text_of m ms) (joined_is path n)
    ∙ append_assoc (in_directory path) n (47 ∷ text_of m ms)

after_front : (a t : List ℕ) → starts_with nat_eq (a ++ t) a ≡ true
after_front a t = (starts_is Decides-eqb (a ++ t) a (starts_with nat_eq (a ++ t) a) refl).1 t refl

after_is : (a x : List ℕ) → starts_with nat_eq x a ≡ true → x ≡ a ++ drop (length a) x
after_is a x e = (starts_is Decides-eqb x a (starts_with nat_eq x a) refl).0 e

drop_front : (a t : List ℕ) → drop (length a) (a ++ t) ≡ t
drop_front [] t = refl
drop_front (x ∷ a) t = drop_front a t

first_true : (a b : Bool) → (a && b) ≡ true → a ≡ true
first_true true b e = refl
first_true false b e = cc

second_true : (a b : Bool) → (a && b) ≡ true → b ≡ true
second_true true b e = e
second_true false b e = cc

both_true : (a b : Bool) → a ≡ true → b ≡ true → (a && b) ≡ true
both_true a b e f = cc

-- names that lead to a path
pub record Reaches (dirs : Dirs) (pruned : List ℕ → Bool) (last : Test) (root q : List ℕ) : Type 0 where
  pub names : List (List ℕ)
  pub are : path_by root names ≡ q
  pub lead : leads dirs pruned last root names ≡ true

by_parts : (dirs : Dirs) (pruned : List ℕ → Bool) (last : Test) (root rest : List ℕ) (ps : List (List ℕ)) → slice_split is_slash rest ≡ ps → leads dirs pruned last root ps ≡ true → Reaches dirs pruned last root (in_directory root ++ rest)
by_parts dirs pruned last root rest [] e t =
    let empty : [] ≡ rest = ap (join_with_byte 47) (sym e) ∙ join_with_byte-slice_split 47 rest in
    absurd (true≢false (sym (ap is_none (subst (λ (r : List ℕ). slice_split is_slash r ≡ []) (sym empty) e))))
  where
    is_none : List (List ℕ) → Bool
    is_none [] = true
    is_none (x ∷ xs) = false
by_parts dirs pruned last root rest (n ∷ ns) e t =
    let g = leads_good dirs pruned last root (n ∷ ns) t in
    let text : text_of n ns ≡ rest = ap (join_with_byte 47) (sym e) ∙ join_with_byte-slice_split 47 rest in
    record { names = n ∷ ns; are = path_by_text root n ns g.0.long g.1 ∙ ap (λ (l : List ℕ). in_directory root ++ l) text; lead = t }

abbrev rest_leads : Dirs → (List ℕ → Bool) → Test → List ℕ → List ℕ → Bool
rest_leads dirs pruned last root q = starts_with nat_eq q (in_directory root) && leads dirs pruned last root (slice_split is_slash (drop (length (in_directory root)) q))

pub led_reaches : (dirs : Dirs) (pruned : List ℕ → Bool) (last : Test) (root q : List ℕ) → is_led dirs pruned last root q ≡ true → Reaches dirs pruned last root q
led_reaches dirs pruned last root q h = by (bytes_eq q root) refl h
  where
    by : (b : Bool) → bytes_eq q root ≡ b → (if b then leads dirs pruned last root [] else rest_leads dirs pruned last root q) ≡ true → Reaches dirs pruned last root q
    by true e t = record { names = []; are = sym ((bytes_decides q root).0 e); lead = t }
    by false e t =
        subst (Reaches dirs pruned last root) (sym (after_is (in_directory root) q (first_true _ _ t)))
        (by_parts dirs pruned last root (drop (length (in_directory root)) q) _ refl (second_true (starts_with nat_eq q (in_directory root)) _ t))

not_longer : (a b : List ℕ) → length a < length b → bytes_eq b a ≡ false
not_longer a b h = by (bytes_eq b a) refl
  where
    by : (q : Bool) → bytes_eq b a ≡ q → q ≡ false
    by true e = absurd (let same : length b ≡ length a = ap length ((bytes_decides b a).0 e) in omega (arith, h, same))
    by false e = refl

long_text : (n : List ℕ) (ns : List (List ℕ)) → length n ≤ length (text_of n ns)
long_text n [] = omega arith
long_text n (m ∷ ms) = omega (arith, length-append n (47 ∷ text_of m ms))

long_stem : (path : List ℕ) → length path ≤ length (in_directory path)
long_stem path = by (is_root path)
  where
    by : (b : Bool) → length path ≤ length (if b then path else path ++ 47 ∷ [])
    by true = omega arith
    by false = omega (arith, length-append path (47 ∷ []))

-- what names lead to passes the test on paths
pub led_is : (dirs : Dirs) (pruned : List ℕ → Bool) (last : Test) (root q : List ℕ) (d : Dir) → Led dirs pruned last root q d → is_led dirs pruned last root q ≡ true
led_is dirs pruned last root q d l = by l.names l.are l.lead l.fine
  where
    by : (ns : List (List ℕ)) → path_by root ns ≡ q → leads dirs pruned last root ns ≡ true → Each IsFine ns → is_led dirs pruned last root q ≡ true
    by [] e t all =
        ap (λ (b : Bool). if b then leads dirs pruned last root [] else rest_leads dirs pruned last root q) ((bytes_decides q root).1 (sym e)) ∙ t
    by (n ∷ ns) e t all =
        let text : q ≡ in_directory root ++ text_of n ns = sym e ∙ path_by_text root n ns all.0.long all.1 in
        let size : length q ≡ length (in_directory root ++ text_of n ns) = ap length text in
        let longer : length root < length q = omega (arith, size, length-append (in_directory root) (text_of n ns), long_text n ns, long_stem root, all.0.long) in
        let rest : drop (length (in_directory root)) q ≡ text_of n ns = ap (drop (length (in_directory root))) text ∙ drop_front (in_directory root) (text_of n ns) in
        ap (λ (b : Bool). if b then leads dirs pruned last root [] else rest_leads dirs pruned last root q) (not_longer root q longer)
        ∙ both_true _ _ (ap (λ (x : List ℕ). starts_with nat_eq x (in_directory root)) text ∙ after_front (in_directory root) (text_of n ns))
        (ap (λ (l : List ℕ). leads dirs pruned last root (slice_split is_slash l)) rest ∙ ap (leads dirs pruned last root) (parts_text n ns all.0.slash all.1) ∙ t)
