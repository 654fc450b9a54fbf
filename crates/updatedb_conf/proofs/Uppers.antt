-- A text compared with the upper case of another, byte by byte.
use Rattle.std.proofs.Common.{◌≡◌, ◌≢◌, ℕ, ◌+◌, ◌-◌, ◌<◌, ◌≤◌, nat_lt, min, Bool, true, false, cond, List, [], ◌∷◌, map, length, get_or, drop, refl, sym, ◌∙◌, ap, arith, add-one, drop-cons, length-drop}
use borrow.Author.Tests.{ltb-false}
use Rattle.std.proofs.lemmas.Bool.Decides.{nat_tests}
use Rattle.std.proofs.lemmas.Cmp.{nat_cmp_total, tied_itself}
use Rattle.std.specs.declared.cmp.Ordering.{Ordering}
use Rattle.std.specs.declared.cmp.Ordering.TheVariants.{Less, Equal, Greater}
use Rattle.std.specs.Char.{to_ascii_uppercase}
use Rattle.std.specs.Ordering.{nat_cmp, ordering_then}
use Rattle.std.specs.Cmp.{nat_cmp_is}
use Rattle.std.specs.Cmp.Lexicographic.{slice_cmp}
use Rattle.std.specs.FinMap.{nat_cmp-IsAntisymmetric}
use Rattle.std.specs.List.{filter, slice_split, onto_first}
use Rattle.updatedb_conf.specs.Words.{upper, words, is_space, is_blank, is_nonempty}

abbrev pub upper_cmp : List ℕ → List ℕ → Ordering
upper_cmp a b = slice_cmp nat_cmp a (upper b)

-- a text from one of its places on
at : (i : ℕ) (s : List ℕ) → i < length s → drop i s ≡ get_or s i 0 ∷ drop (i + 1) s
at i s h = drop-cons s i 0 h ∙ ap (λ (n : ℕ). get_or s i 0 ∷ drop n s) (sym (add-one i))

then_equal : (r o : Ordering) → r ≡ Equal → ordering_then r o ≡ o
then_equal r o e = ap (λ (q : Ordering). ordering_then q o) e

then_other : (r o : Ordering) → r ≢ Equal → ordering_then r o ≡ r
then_other Less o ne = refl
then_other Equal o ne = absurd (ne refl)
then_other Greater o ne = refl

-- equal bytes decide nothing
pub at_same : (a b : List ℕ) (i : ℕ) → i < length a → i < length b → get_or a i 0 ≡ to_ascii_uppercase (get_or b i 0) → upper_cmp (drop i a) (drop i b) ≡ upper_cmp (drop (i + 1) a) (drop (i + 1) b)
at_same a b i in_a in_b same =
    (λ j. upper_cmp (at i a in_a j) (at i b in_b j))
    ∙ then_equal (nat_cmp (get_or a i 0) (to_ascii_uppercase (get_or b i 0))) _ (ap (λ (x : ℕ). nat_cmp (get_or a i 0) x) (sym same) ∙ tied_itself nat_cmp_total (get_or a i 0))

-- the first two bytes that differ decide
pub at_other : (a b : List ℕ) (i : ℕ) → i < length a → i < length b → get_or a i 0 ≢ to_ascii_uppercase (get_or b i 0) → upper_cmp (drop i a) (drop i b) ≡ nat_cmp (get_or a i 0) (to_ascii_uppercase (get_or b i 0))
at_other a b i in_a in_b other =
    (λ j. upper_cmp (at i a in_a j) (at i b in_b j))
    ∙ then_other (nat_cmp (get_or a i 0) (to_ascii_uppercase (get_or b i 0))) _ (λ e. other (nat_cmp-IsAntisymmetric _ _ e))

-- where one of two texts is empty, what is left of both lengths decides
shorter : (xs ys : List ℕ) (m n k : ℕ) → length xs + k ≡ m → length ys + k ≡ n → min (length xs) (length ys) ≡ 0 → upper_cmp xs ys ≡ nat_cmp m n
shorter [] [] m n k is_m is_n none = nat_cmp_is m n Equal (omega arith)
shorter [] (y ∷ ys) m n k is_m is_n none = nat_cmp_is m n Less (omega arith)
shorter (x ∷ xs) [] m n k is_m is_n none = nat_cmp_is m n Greater (omega arith)
shorter (x ∷ xs) (y ∷ ys) m n k is_m is_n none = absurd (omega arith)

-- where one text ends, the lengths decide
pub at_end : (a b : List ℕ) (i : ℕ) → i ≡ min (length a) (length b) → upper_cmp (drop i a) (drop i b) ≡ nat_cmp (length a) (length b)
at_end a b i is = shorter (drop i a) (drop i b) (length a) (length b) i (omega (arith, length-drop i a)) (omega (arith, length-drop i b)) (omega (arith, length-drop i a, length-drop i b))

-- ---- the words of a text in upper case

upper-onto_first : (x : ℕ) (parts : List (List ℕ)) → map upper (onto_first x parts) ≡ onto_first (to_ascii_uppercase x) (map upper parts)
upper-onto_first x [] = refl
upper-onto_first x (part ∷ parts) = refl

-- upper case keeps what stands between words
no_space : (y : ℕ) → 32 < y → is_space y ≡ false
unfolding is_blank
no_space y h = grind (arith, nat_tests)

is_space-upper : (x : ℕ) → is_space (to_ascii_uppercase x) ≡ is_space x
is_space-upper x =
    elim (nat_lt x 97) as (λ b. nat_lt x 97 ≡ b → is_space (cond b x (cond (nat_lt x 123) (x - 32) x)) ≡ is_space x) [
      | true ↦ λ e. refl
      | false ↦ λ e. elim (nat_lt x 123) as (λ b. is_space (cond b (x - 32) x) ≡ is_space x) [
        | true ↦ let far : 97 ≤ x = ltb-false x 97 e in no_space (x - 32) (omega arith) ∙ sym (no_space x (omega arith))
        | false ↦ refl
      ]
    ] refl

slice_split-upper : (xs : List ℕ) → slice_split is_space (upper xs) ≡ map upper (slice_split is_space xs)
slice_split-upper [] = refl
slice_split-upper (x ∷ xs) =
    ap (λ b. cond b ([] ∷ slice_split is_space (upper xs)) (onto_first (to_ascii_uppercase x) (slice_split is_space (upper xs)))) (is_space-upper x)
    ∙ elim (is_space x) as (λ b. cond b ([] ∷ slice_split is_space (upper xs)) (onto_first (to_ascii_uppercase x) (slice_split is_space (upper xs))) ≡ map upper (cond b ([] ∷ slice_split is_space xs) (onto_first x (slice_split is_space xs)))) [
      | true ↦ ap (λ parts. [] ∷ parts) (slice_split-upper xs)
      | false ↦ ap (onto_first (to_ascii_uppercase x)) (slice_split-upper xs) ∙ sym (upper-onto_first x (slice_split is_space xs))
    ]

filter-upper : (parts : List (List ℕ)) → filter is_nonempty (map upper parts) ≡ map upper (filter is_nonempty parts)
filter-upper [] = refl
filter-upper ([] ∷ parts) = filter-upper parts
filter-upper ((x ∷ part) ∷ parts) = ap (λ rest. upper (x ∷ part) ∷ rest) (filter-upper parts)

-- the words of a text in upper case are its words in upper case
pub words_upper : (text : List ℕ) → words (upper text) ≡ map upper (words text)
unfolding words
words_upper text = ap (filter is_nonempty) (slice_split-upper text) ∙ filter-upper (slice_split is_space text)
