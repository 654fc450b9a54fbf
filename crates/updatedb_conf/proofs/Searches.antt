-- A binary search in words that rise.
use Rattle.std.proofs.Common.{◌≡◌, ℕ, zero, suc, ◌+◌, ◌<◌, ◌≤◌, ◌||◌, ◌&&◌, Bool, true, false, List, [], ◌∷◌, map, length, get_or, Result, Ok, Err, is_ok, inl, inr, refl, ap, sym, subst, ◌∙◌, arith, add-one, T}
use Rattle.std.specs.declared.cmp.Ordering.{Ordering}
use Rattle.std.specs.declared.cmp.Ordering.TheVariants.{Less, Equal, Greater}
use Rattle.std.specs.Ordering.{eq_by_cmp, is_lt, is_eq, ordering_reverse, ordering_index}
use Rattle.std.specs.Cmp.{eq_by_cmp_equiv}
use Rattle.std.specs.List.{list_any}
use Rattle.std.specs.List.Sorted.{IsBinarySearchResult, IsSearchInRange, IsSortedBy, IsNonDecreasingBy}
use Rattle.std.specs.FinMap.Entries.{below_all}
use Rattle.std.proofs.lemmas.Bool.{cases_lt}
use Rattle.std.proofs.lemmas.Cmp.{nat_list_cmp_total}
use Rattle.std.proofs.lemmas.List.Sorted.{searchable_from_sorted}
use Rattle.updatedb_conf.specs.declared.word_set.Span.{Span}
use Rattle.updatedb_conf.specs.Stored.{piece, pieces, IsRising}
use Rattle.updatedb_conf.specs.Words.{WordSet, has, set_of, marked}
use Rattle.updatedb_conf.proofs.Sets.{byte_cmp, among, has-set_of}

second : (a b : Bool) → T (a && b) → T b
second true b p = p
second false b p = absurd p

first : (a b : Bool) → T (a && b) → T a
first true b p = tt
first false b p = absurd p

-- where one comes before another, the other does not come before it
turned : (a b : List ℕ) → T (is_lt (byte_cmp a b)) → is_lt (byte_cmp b a) ≡ false
turned a b h =
    ap is_lt (nat_list_cmp_total.antisymm b a) ∙ after (byte_cmp a b) h
  where
    after : (r : Ordering) → T (is_lt r) → is_lt (ordering_reverse r) ≡ false
    after Less p = refl
    after Equal p = absurd p
    after Greater p = absurd p

-- neighbours rise
neighbours : (text : List ℕ) (spans : List Span) → IsRising (pieces text spans) → (k : ℕ) (d : Span) → suc k < length spans → is_lt (byte_cmp (piece text (get_or spans (suc k) d)) (piece text (get_or spans k d))) ≡ false
neighbours text [] h k d in_list = absurd (omega arith)
neighbours text (s ∷ []) h k d in_list = absurd (omega arith)
neighbours text (s ∷ t ∷ spans) h zero d in_list = turned (piece text s) (piece text t) (first _ _ (first _ _ h))
neighbours text (s ∷ t ∷ spans) h (suc k) d in_list = neighbours text (t ∷ spans) (second _ _ h) k d (omega arith)

sorted : (text : List ℕ) (spans : List Span) → IsRising (pieces text spans) → IsSortedBy (λ a b. is_lt (byte_cmp (piece text a) (piece text b))) spans
sorted text spans h k d low in_list = rw (add-one k) (neighbours text spans h k d (omega arith))

-- a word that ties with a piece
found : (text word : List ℕ) (spans : List Span) (k : ℕ) (d : Span) → k < length spans → byte_cmp (piece text (get_or spans k d)) word ≡ Equal → among word (pieces text spans) ≡ true
found text word [] k d in_list e = absurd (omega arith)
found text word (s ∷ spans) zero d in_list e =
    ap (λ b. b || among word (pieces text spans)) ((eq_by_cmp_equiv nat_list_cmp_total).symm word (piece text s) ∙ ap is_eq e)
found text word (s ∷ spans) (suc k) d in_list e =
    ap (λ b. eq_by_cmp byte_cmp word (piece text s) || b) (found text word spans k d (omega arith) e) ∙ or_true (eq_by_cmp byte_cmp word (piece text s))
  where
    or_true : (b : Bool) → (b || true) ≡ true
    or_true true = refl
    or_true false = refl

-- a word that ties with none
missed : (text word : List ℕ) (spans : List Span) (d : Span) → ((k : ℕ) → k < length spans → is_eq (byte_cmp (piece text (get_or spans k d)) word) ≡ false) → among word (pieces text spans) ≡ false
missed text word [] d apart = refl
missed text word (s ∷ spans) d apart =
    ap (λ b. b || among word (pieces text spans)) ((eq_by_cmp_equiv nat_list_cmp_total).symm word (piece text s) ∙ apart zero (omega arith))
    ∙ missed text word spans d (λ k h. apart (suc k) (omega arith))

-- what the search answers
pub searched : (text word : List ℕ) (spans : List Span) (d : Span) (r : Result ℕ ℕ) → IsRising (pieces text spans) → IsSearchInRange r (length spans) → IsBinarySearchResult (λ s. byte_cmp (piece text s) word) spans r → is_ok r ≡ has (set_of (pieces text spans)) word
searched text word spans d (Ok i) rising bound at = sym (has-set_of (pieces text spans) word ∙ found text word spans i d bound (at d))
searched text word spans d (Err i) rising bound parts =
    let apart = parts (searchable_from_sorted nat_list_cmp_total (piece text) spans word (sorted text spans rising)) in
    sym (has-set_of (pieces text spans) word ∙ missed text word spans d (λ k h. elsewhere k h apart))
  where
    elsewhere : (k : ℕ) → k < length spans → ((j : ℕ) (e : Span) → 0 ≤ j → j < i → byte_cmp (piece text (get_or spans j e)) word ≡ Less) × ((j : ℕ) (e : Span) → i ≤ j → j < length spans → byte_cmp (piece text (get_or spans j e)) word ≡ Greater) → is_eq (byte_cmp (piece text (get_or spans k d)) word) ≡ false
    elsewhere k h apart = elim (cases_lt k i) [ inl before ↦ ap is_eq (apart.0 k d (omega arith) before) | inr after ↦ ap is_eq (apart.1 k d after h) ]

-- the same, where text and pieces are those of a set
pub answered : (text text' word : List ℕ) (spans spans' : List Span) (r : Result ℕ ℕ) (set : WordSet) → text' ≡ text → spans' ≡ spans → IsRising (pieces text spans) → set_of (pieces text spans) ≡ set → IsSearchInRange r (length spans') → IsBinarySearchResult (λ s. byte_cmp (piece text' s) word) spans' r → is_ok r ≡ has set word
answered text text' word spans spans' r set same_text same_spans rising is bound at =
    let none : Span = record { start = 0; len = 0 } in
    searched text' word spans' none r (subst IsRising (λ j. pieces (sym same_text j) (sym same_spans j)) rising) bound at
    ∙ ap (λ list. has (set_of list) word) (λ j. pieces (same_text j) (same_spans j))
    ∙ ap (λ s. has s word) is
