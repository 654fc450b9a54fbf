-- Sets of words, and lists of words that rise.
use Rattle.std.proofs.Common.{◌≡◌, ℕ, ◌+◌, ◌<◌, ◌≤◌, ◌||◌, ◌&&◌, Bool, true, false, cond, List, [], ◌∷◌, ◌++◌, map, length, get_or, Bor, Option, Some, None, is_some, refl, ap, sym, subst, ◌∙◌, arith, T, nat_eq, append-nil}
use Rattle.std.specs.declared.cmp.Ordering.{Ordering}
use Rattle.std.specs.declared.cmp.Ordering.TheVariants.{Less, Equal, Greater}
use Rattle.std.specs.Ordering.{nat_cmp, eq_by_cmp, is_lt, is_eq}
use Rattle.std.specs.Cmp.{IsTotalOrder, IsEquivalence}
use Rattle.std.specs.Cmp.Lexicographic.{slice_cmp, pointwise, on_texts, texts_ties}
use Rattle.std.specs.Str.{bytes_eq}
use Rattle.std.specs.List.{list_any, dedup, dedup_from, AllByRecursion}
use Rattle.std.specs.List.Sorted.{IsSorted, IsStrictlySortedBy, IsPermutation}
use Rattle.std.proofs.lemmas.Slice.Eq.{bytes_eq-Decides}
use Rattle.std.specs.FinMap.{FinMap, entries, keys, from_sorted, from_entries, contains_key, find, is_sorted, entries-from_sorted, get-from_sorted, get-from_entries, contains_key-keys, same_map, slice_cmp-IsAntisymmetric, nat_cmp-IsAntisymmetric}
use Rattle.std.specs.FinMap.Entries.{below_all, is_some-find}
use Rattle.std.proofs.lemmas.Cmp.{nat_list_cmp_total}
use Rattle.std.proofs.lemmas.List.Kept.{IsStrictlySortedBy-dedup}
use Rattle.std.proofs.lemmas.List.Sorted.{list_any-IsPermutation}
use Rattle.updatedb_conf.specs.Words.{WordSet, set_of, members, has, marked, joined}
use Rattle.updatedb_conf.specs.declared.word_set.Span.{Span}
use Rattle.updatedb_conf.specs.Stored.{IsRising, pieces}
use Rattle.std.proofs.lemmas.List.{map-append}
use Rattle.updatedb_conf.proofs.LaidWords.{texts}

abbrev pub byte_cmp : List ℕ → List ℕ → Ordering
byte_cmp = slice_cmp nat_cmp

-- a word ties with one of the list
abbrev pub among : List ℕ → List (List ℕ) → Bool
among word list = list_any (eq_by_cmp byte_cmp word) list

map-marked : (list : List (List ℕ)) → map (λ e. e.0) (marked list) ≡ list
map-marked [] = refl
map-marked (word ∷ list) = ap (λ rest. word ∷ rest) (map-marked list)

-- of words that rise, the set is made in one step
sorted_set : (list : List (List ℕ)) → IsRising list → from_sorted {R = byte_cmp} (marked list) ≡ set_of list
sorted_set list rising =
    same_map nat_list_cmp_total (slice_cmp-IsAntisymmetric nat_cmp-IsAntisymmetric) _ _ (λ q. get-from_sorted byte_cmp (marked list) q rising ∙ sym (get-from_entries nat_list_cmp_total (marked list) q))

-- words that rise are the members of their set
pub members-set_of : (list : List (List ℕ)) → IsRising list → members (set_of list) ≡ list
members-set_of list rising =
    sym (ap (λ (s : WordSet). members s) (sorted_set list rising)) ∙ ap (λ (es : List (List ℕ × Unit {0})). map (λ e. e.0) es) (entries-from_sorted byte_cmp (marked list) rising) ∙ map-marked list

-- what a set has
pub has-set_of : (list : List (List ℕ)) (word : List ℕ) → has (set_of list) word ≡ among word list
has-set_of list word =
    ap is_some (get-from_entries nat_list_cmp_total (marked list) word) ∙ is_some-find byte_cmp word (marked list) ∙ ap (among word) (map-marked list)

marks : (x : Option (Unit {0})) → x ≡ cond (is_some x) (Some tt) None
marks None = refl
marks (Some u) = refl

-- sets that have the same words are equal
pub same_sets : (s t : WordSet) → ((word : List ℕ) → has s word ≡ has t word) → s ≡ t
same_sets s t same =
    same_map nat_list_cmp_total (slice_cmp-IsAntisymmetric nat_cmp-IsAntisymmetric) s t (λ q. marks _ ∙ ap (λ b. cond b (Some tt) None) (same q) ∙ sym (marks _))

-- lists that have the same words give the same set
pub same_words : (a b : List (List ℕ)) → ((word : List ℕ) → among word a ≡ among word b) → set_of a ≡ set_of b
same_words a b same = same_sets _ _ (λ word. has-set_of a word ∙ same word ∙ sym (has-set_of b word))

-- a set is that of its members
pub set_of-members : (s : WordSet) → set_of (members s) ≡ s
set_of-members s = same_sets _ _ (λ word. has-set_of (members s) word ∙ sym (contains_key-keys s word))

-- ---- sorting

-- a word ties with the text of one
tied_text : List ℕ → Bor (List ℕ) → Bool
tied_text word x = eq_by_cmp byte_cmp word x.now

among-texts : (word : List ℕ) (list : List (Bor (List ℕ))) → among word (texts list) ≡ list_any (λ x. eq_by_cmp byte_cmp word x.now) list
among-texts word [] = refl
among-texts word (x ∷ list) = ap (λ b. eq_by_cmp byte_cmp word x.now || b) (among-texts word list)

or_twice : (a b : Bool) → (a || b) ≡ (a || (a || b))
or_twice true b = refl
or_twice false b = refl

-- what repeats the one before changes nothing
any-dedup_from : {A : Type 0} (p : A → Bool) (same : A → A → Bool) → ((x y : A) → same x y ≡ true → p x ≡ p y) → (k : A) (xs : List A) → list_any p (dedup_from same k xs) ≡ (p k || list_any p xs)
any-dedup_from p same alike k [] = refl
any-dedup_from p same alike k (x ∷ xs) =
    elim (same x k) as (λ b. same x k ≡ b → list_any p (cond b (dedup_from same k xs) (k ∷ dedup_from same x xs)) ≡ (p k || (p x || list_any p xs))) [
      | true ↦ λ e. any-dedup_from p same alike k xs ∙ or_twice (p k) (list_any p xs) ∙ ap (λ b. p k || (b || list_any p xs)) (sym (alike x k e))
      | false ↦ λ e. ap (λ b. p k || b) (any-dedup_from p same alike x xs)
    ] refl

any-dedup : {A : Type 0} (p : A → Bool) (same : A → A → Bool) → ((x y : A) → same x y ≡ true → p x ≡ p y) → (xs : List A) → list_any p (dedup same xs) ≡ list_any p xs
any-dedup p same alike [] = refl
any-dedup p same alike (x ∷ xs) = any-dedup_from p same alike x xs

abbrev pub same_text : Bor (List ℕ) → Bor (List ℕ) → Bool
same_text x y = pointwise nat_eq x.now y.now

abbrev pub text_cmp : Bor (List ℕ) → Bor (List ℕ) → Ordering
text_cmp x y = byte_cmp x.now y.now

same_text-is : (x y : Bor (List ℕ)) → same_text x y ≡ true → x.now ≡ y.now
same_text-is x y e = (bytes_eq-Decides x.now y.now).0 e

-- sorting and taking out repeats leave the set as it is
pub set_of_sorted : (list sorted distinct : List (Bor (List ℕ))) → IsPermutation list sorted → distinct ≡ dedup same_text sorted → set_of (texts distinct) ≡ set_of (texts list)
set_of_sorted list sorted distinct moved is =
    same_words _ _ (λ word.
    among-texts word distinct
    ∙ ap (λ l. list_any (λ (x : Bor (List ℕ)). eq_by_cmp byte_cmp word x.now) l) is
    ∙ any-dedup (λ (x : Bor (List ℕ)). eq_by_cmp byte_cmp word x.now) same_text (λ x y e. ap (λ t. eq_by_cmp byte_cmp word t) (same_text-is x y e)) sorted
    ∙ sym (list_any-IsPermutation (λ (x : Bor (List ℕ)). eq_by_cmp byte_cmp word x.now) list sorted moved)
    ∙ sym (among-texts word list))

below : (x : List ℕ) (list : List (Bor (List ℕ))) → AllByRecursion (λ (y : Bor (List ℕ)). byte_cmp x y.now ≡ Less) list → T (below_all byte_cmp x (marked (texts list)))
below x [] h = tt
below x (y ∷ list) h = both _ _ (subst (λ r. T (is_lt r)) (sym h.0) tt) (below x list h.1)
  where
    both : (a b : Bool) → T a → T b → T (a && b)
    both true b p q = q
    both false b p q = p

rising_from_sorted : (list : List (Bor (List ℕ))) → IsStrictlySortedBy text_cmp list → IsRising (texts list)
unfolding IsStrictlySortedBy
rising_from_sorted [] h = tt
rising_from_sorted (x ∷ list) h = both _ _ (below x.now list h.0) (rising_from_sorted list h.1)
  where
    both : (a b : Bool) → T a → T b → T (a && b)
    both true b p q = q
    both false b p q = p

-- sorting and taking out repeats let the words rise
pub rising_sorted : (sorted distinct : List (Bor (List ℕ))) → IsSorted text_cmp sorted → distinct ≡ dedup same_text sorted → IsRising (texts distinct)
rising_sorted sorted distinct order is =
    subst (λ l. IsRising (texts l)) (sym is) (rising_from_sorted (dedup same_text sorted) (IsStrictlySortedBy-dedup (on_texts (λ (x : Bor (List ℕ)). x.now)) (λ x y. texts_ties x.now y.now) sorted order))

-- the pieces of a stored set are its members
pub stored_members : (text text' : List ℕ) (spans : List Span) (set : WordSet) → text' ≡ text → IsRising (pieces text spans) → set_of (pieces text spans) ≡ set → pieces text' spans ≡ members set
stored_members text text' spans set same rising is =
    ap (λ t. pieces t spans) same ∙ sym (members-set_of (pieces text spans) rising) ∙ ap (λ (s : WordSet). members s) is

-- no more words
pub joined-nil : (set : WordSet) (more : List (List ℕ)) → more ≡ [] → set ≡ joined set more
joined-nil set more none = sym (ap (λ m. set_of (members set ++ m)) none ∙ ap set_of (append-nil (members set)) ∙ set_of-members set)

-- words after the members
pub joined_texts : (set : WordSet) (list more both : List (Bor (List ℕ))) (words : List (List ℕ)) → texts list ≡ members set → texts more ≡ words → both ≡ list ++ more → set_of (texts both) ≡ joined set words
joined_texts set list more both words is are joins =
    ap (λ l. set_of (texts l)) joins ∙ ap set_of (map-append (λ (w : Bor (List ℕ)). w.now) list more) ∙ (λ j. set_of (is j ++ are j))

-- no texts, no words
pub no_texts : (more : List (Bor (List ℕ))) (words : List (List ℕ)) → texts more ≡ words → length more ≡ 0 → words ≡ []
no_texts [] words are none = sym are
no_texts (x ∷ more) words are none = absurd (omega arith)

-- ---- what sets have, byte by byte

tied-bytes_eq : (a b : List ℕ) → eq_by_cmp byte_cmp a b ≡ bytes_eq a b
tied-bytes_eq a b = sym (texts_ties a b)

among-bytes_eq : (word : List ℕ) (list : List (List ℕ)) → among word list ≡ list_any (bytes_eq word) list
among-bytes_eq word [] = refl
among-bytes_eq word (x ∷ list) = λ i. tied-bytes_eq word x i || among-bytes_eq word list i

pub has-set_of-bytes : (list : List (List ℕ)) (word : List ℕ) → has (set_of list) word ≡ list_any (bytes_eq word) list
has-set_of-bytes list word = has-set_of list word ∙ among-bytes_eq word list

or_assoc : (a b c : Bool) → (a || (b || c)) ≡ ((a || b) || c)
or_assoc true b c = refl
or_assoc false b c = refl

any-append : (p : List ℕ → Bool) (xs ys : List (List ℕ)) → list_any p (xs ++ ys) ≡ (list_any p xs || list_any p ys)
any-append p [] ys = refl
any-append p (x ∷ xs) ys = ap (λ b. p x || b) (any-append p xs ys) ∙ or_assoc (p x) (list_any p xs) (list_any p ys)

pub has-joined : (set : WordSet) (more : List (List ℕ)) (word : List ℕ) → has (joined set more) word ≡ (has set word || list_any (bytes_eq word) more)
has-joined set more word =
    has-set_of (members set ++ more) word ∙ any-append (eq_by_cmp byte_cmp word) (members set) more
    ∙ (λ i. sym (contains_key-keys set word) i || among-bytes_eq word more i)
