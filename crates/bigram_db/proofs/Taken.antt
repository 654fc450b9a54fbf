-- The first pairs of a ranking, taken one by one.
use Rattle.std.proofs.Common.{◌≡◌, ℕ, ◌+◌, ◌*◌, ◌/◌, ◌%◌, ◌<◌, Bool, true, false, set, get_or, List, [], ◌∷◌, ◌++◌, length, Option, Some, None, refl, sym, ap, subst, ◌∙◌, inl, inr, ◌⊎◌, append_assoc, append-nil, length-append, arith}
use Rattle.std.specs.Prelude.{IfSome, replicate}
use Rattle.std.proofs.lemmas.Bool.{cases_lt}
use Rattle.std.proofs.lemmas.Grind.{flat_map-append}
use Rattle.bigram_db.specs.Pairs.{Pair, is_table}
use Rattle.bigram_db.specs.Chosen.{is_counted, comes_before, ranked, pair_bytes, padded, chosen}
use Rattle.bigram_db.specs.Counts.{index_of, times_of, ComesFirst, IsAfter, IsNextIn, IsNoneNext}
use Rattle.bigram_db.proofs.InOrder.{Among, Each, Ordered, among_each, each_among, among_left, among_right, among_either, ordered_across, ordered_behind, ordered_front}
use Rattle.bigram_db.proofs.PairPlaces.{bounds, index_below, pair_of, pair_of_counts, index-pair_of, pair_of-index, count_there}
use Rattle.bigram_db.proofs.Ranked.{Smaller, Before, before_true, true_before, before_order, among_ranked, ranked_among, ranked_ordered}
use Rattle.bigram_db.proofs.Padded.{bytes_of, length-bytes_of, padded_none, padded_full, padded_more, padded_table}

-- ---- the order of pairs and that of their places

smaller_index : (p q : Pair) → is_counted p ≡ true → is_counted q ≡ true → Smaller p q → index_of p < index_of q
smaller_index p q e f (inl less) = let b = bounds p e in let c = bounds q f in omega (arith, less)
smaller_index p q e f (inr tie) = let b = bounds p e in let c = bounds q f in omega (arith, tie.0, tie.1)

index_smaller : (p q : Pair) → is_counted p ≡ true → is_counted q ≡ true → index_of p < index_of q → Smaller p q
index_smaller p q e f lt =
    let b = bounds p e in
    let c = bounds q f in
    elim (cases_lt p.0 q.0) [
      | inl less ↦ inl less
      | inr le ↦ let same : p.0 ≡ q.0 = omega (arith, le, lt) in inr (same, omega (arith, same, lt))
    ]

pub first_before : (numbers : List ℕ) (p q : Pair) → is_counted p ≡ true → is_counted q ≡ true → ComesFirst numbers (index_of p) (index_of q) → comes_before (times_of numbers) p q ≡ true
first_before numbers p q e f (inl more) = true_before (times_of numbers) p q (inl (omega (arith, more, count_there numbers p e, count_there numbers q f)))
first_before numbers p q e f (inr tie) = true_before (times_of numbers) p q (inr (count_there numbers p e ∙ tie.0 ∙ sym (count_there numbers q f), index_smaller p q e f tie.1))

by_before : (numbers : List ℕ) (p q : Pair) → is_counted p ≡ true → is_counted q ≡ true → Before (times_of numbers) p q → ComesFirst numbers (index_of p) (index_of q)
by_before numbers p q e f (inl more) = inl (omega (arith, more, count_there numbers p e, count_there numbers q f))
by_before numbers p q e f (inr tie) = inr (sym (count_there numbers p e) ∙ tie.0 ∙ count_there numbers q f, smaller_index p q e f tie.1)

before_first : (numbers : List ℕ) (p q : Pair) → is_counted p ≡ true → is_counted q ≡ true → comes_before (times_of numbers) p q ≡ true → ComesFirst numbers (index_of p) (index_of q)
before_first numbers p q e f h = by_before numbers p q e f (before_true (times_of numbers) p q h)

-- ---- the last pair that was taken

abbrev pub last_index : Option ℕ → List Pair → Option ℕ
last_index o [] = o
last_index o (p ∷ pairs) = last_index (Some (index_of p)) pairs

last_push : (o : Option ℕ) (pairs : List Pair) (p : Pair) → last_index o (pairs ++ p ∷ []) ≡ Some (index_of p)
last_push o [] p = refl
last_push o (q ∷ pairs) p = last_push (Some (index_of q)) pairs p

record Last (before : Pair → Pair → Bool) (o : Option ℕ) (done : List Pair) : Type 0 where
  pair : Pair
  among : Among pair done
  is : last_index o done ≡ Some (index_of pair)
  latest : (p : Pair) → Among p done → (p ≡ pair) ⊎ (before p pair ≡ true)

last_of : (before : Pair → Pair → Bool) (o : Option ℕ) (q : Pair) (done : List Pair) → Ordered before (q ∷ done) → Last before o (q ∷ done)
last_of before o q [] order = record { pair = q; among = inl refl; is = refl; latest = λ p is. elim is [ inl here ↦ inl here | inr there ↦ absurd there ] }
last_of before o q (r ∷ done) order =
    let l = last_of before (Some (index_of q)) r done order.1 in
    record {
      pair = l.pair;
      among = inr l.among;
      is = l.is;
      latest = λ p is. elim is [
        | inl here ↦ inr (ap (λ (x : Pair). before x l.pair) here ∙ each_among (λ x. before q x ≡ true) (r ∷ done) l.pair order.0 l.among)
        | inr there ↦ l.latest p there
      ];
    }

-- ---- what was taken so far

pub record Taken (numbers : List ℕ) (place : ℕ) (bytes : List ℕ) (last : Option ℕ) : Type 0 where
  pub done : List Pair
  pub rest : List Pair
  pub split : ranked (times_of numbers) ≡ done ++ rest
  pub len : length done ≡ place
  pub table : bytes ≡ padded (bytes_of done)
  pub is_last : last ≡ last_index None done

pub taken_none : (numbers : List ℕ) → Taken numbers 0 (replicate 256 0) None
taken_none numbers = record { done = []; rest = ranked (times_of numbers); split = refl; len = refl; table = sym padded_none; is_last = refl }

module _ (numbers : List ℕ) (place : ℕ) (bytes : List ℕ) (last : Option ℕ) (t : Taken numbers place bytes last) where
  order : Ordered (comes_before (times_of numbers)) (t.done ++ t.rest)
  order = subst (Ordered (comes_before (times_of numbers))) t.split (ranked_ordered (times_of numbers))

  in_ranked : (p : Pair) → Among p (t.done ++ t.rest) → (is_counted p ≡ true) × (0 < times_of numbers p)
  in_ranked p is = among_ranked (times_of numbers) p (subst (Among p) (sym t.split) is)

  done_counts : Each (λ p. is_counted p ≡ true) t.done
  done_counts = among_each (λ p. is_counted p ≡ true) t.done (λ p is. (in_ranked p (among_left p t.done t.rest is)).0)

  pub taken_table : is_table bytes ≡ true
  taken_table = ap is_table t.table ∙ padded_table t.done done_counts

  -- all places are taken
  pub taken_all : place ≡ 128 → bytes ≡ chosen (times_of numbers)
  taken_all full =
      t.table ∙ sym (padded_full (bytes_of t.done) (bytes_of t.rest) (omega (arith, length-bytes_of t.done, t.len, full)))
      ∙ ap padded (sym (flat_map-append pair_bytes t.done t.rest)) ∙ ap (λ (l : List Pair). padded (bytes_of l)) (sym t.split)

-- ---- the next one

true_false : (b : Bool) → b ≡ true → b ≡ false → ⊥
true_false b e f = absurd cc

abbrev before : List ℕ → Pair → Pair → Bool
before numbers = comes_before (times_of numbers)

never_both : (numbers : List ℕ) (p q : Pair) → before numbers p q ≡ true → before numbers q p ≡ true → ⊥
never_both numbers p q a b = true_false (before numbers p p) ((before_order (times_of numbers)).on p q p a b) ((before_order (times_of numbers)).never p)

never_itself : (numbers : List ℕ) (p : Pair) → before numbers p p ≡ true → ⊥
never_itself numbers p a = never_both numbers p p a a

-- what stands behind is behind the last one taken
behind : (numbers : List ℕ) (done rest : List Pair) (h : Pair) → Ordered (before numbers) (done ++ rest) → Each (λ p. is_counted p ≡ true) done → Among h rest → is_counted h ≡ true → IsAfter numbers (last_index None done) (index_of h)
behind numbers [] rest h order all is e = tt
behind numbers (q ∷ done) rest h order all is e =
    let l = last_of (before numbers) None q done (ordered_front (before numbers) (q ∷ done) rest order) in
    let across = ordered_across (before numbers) l.pair h (q ∷ done) rest order l.among is in
    subst (λ (o : Option ℕ). IsAfter numbers o (index_of h)) (sym l.is) (before_first numbers l.pair h (each_among (λ p. is_counted p ≡ true) (q ∷ done) l.pair all l.among) e across)

-- what was taken is not behind the last one taken
not_done : (numbers : List ℕ) (done : List Pair) (p : Pair) → Ordered (before numbers) done → Each (λ q. is_counted q ≡ true) done → is_counted p ≡ true → IsAfter numbers (last_index None done) (index_of p) → Among p done → ⊥
not_done numbers [] p order all e after is = is
not_done numbers (q ∷ done) p order all e after is =
    let l = last_of (before numbers) None q done order in
    let later : before numbers l.pair p ≡ true =
    first_before numbers l.pair p (each_among (λ r. is_counted r ≡ true) (q ∷ done) l.pair all l.among) e (subst (λ (o : Option ℕ). IsAfter numbers o (index_of p)) l.is after) in
    elim (l.latest p is) [
      | inl same ↦ never_itself numbers p (ap (λ (r : Pair). before numbers r p) same ∙ later)
      | inr earlier ↦ never_both numbers p l.pair earlier later
    ]

-- the pair at a place with a number is ranked
module _ (numbers : List ℕ) (done : List Pair) (last : Option ℕ) (is_last : last ≡ last_index None done) where
  some_at : (p : Pair) → is_counted p ≡ true → 0 < times_of numbers p → 0 < get_or numbers (index_of p) 0
  some_at p e more = omega (arith, more, count_there numbers p e)

  none_left : (rest : List Pair) → ranked (times_of numbers) ≡ done ++ rest → Ordered (before numbers) (done ++ rest) → Each (λ p. is_counted p ≡ true) done → IsNoneNext numbers last 9216 → rest ≡ []
  none_left [] split order all none = refl
  none_left (h ∷ rest) split order all none =
      let facts = among_ranked (times_of numbers) h (subst (Among h) (sym split) (among_right h done (h ∷ rest) (inl refl))) in
      absurd (none (index_of h) (index_below h facts.0) (some_at h facts.0 facts.1) (subst (λ (o : Option ℕ). IsAfter numbers o (index_of h)) (sym is_last) (behind numbers done (h ∷ rest) h order all (inl refl) facts.0)))

  next_here : (i : ℕ) (rest : List Pair) → ranked (times_of numbers) ≡ done ++ rest → Ordered (before numbers) (done ++ rest) → Each (λ p. is_counted p ≡ true) done → IsNextIn numbers last 9216 i
      → Among (pair_of i) (done ++ rest) → (later : List Pair) × (rest ≡ pair_of i ∷ later)
  next_here i [] split order all next is =
      absurd (not_done numbers done (pair_of i) (ordered_front (before numbers) done [] order) all (pair_of_counts i next.within) (subst (IsAfter numbers (last_index None done)) (sym (index-pair_of i)) (subst (λ (o : Option ℕ). IsAfter numbers o i) is_last next.behind))
      (elim (among_either (pair_of i) done [] is) [ inl here ↦ here | inr there ↦ absurd there ]))
  next_here i (h ∷ rest) split order all next is =
      let facts = among_ranked (times_of numbers) h (subst (Among h) (sym split) (among_right h done (h ∷ rest) (inl refl))) in
      let counted = pair_of_counts i next.within in
      elim (among_either (pair_of i) done (h ∷ rest) is) [
        | inl here ↦ absurd (not_done numbers done (pair_of i) (ordered_front (before numbers) done (h ∷ rest) order) all counted (subst (IsAfter numbers (last_index None done)) (sym (index-pair_of i)) (subst (λ (o : Option ℕ). IsAfter numbers o i) is_last next.behind)) here)
        | inr there ↦ elim there [
          | inl same ↦ (rest, ap (λ (q : Pair). q ∷ rest) (sym same))
          | inr later ↦
              let first : before numbers h (pair_of i) ≡ true = each_among (λ q. before numbers h q ≡ true) rest (pair_of i) (ordered_behind (before numbers) done (h ∷ rest) order).0 later in
              let after : IsAfter numbers last (index_of h) = subst (λ (o : Option ℕ). IsAfter numbers o (index_of h)) (sym is_last) (behind numbers done (h ∷ rest) h order all (inl refl) facts.0) in
              elim (next.least (index_of h) (index_below h facts.0) (some_at h facts.0 facts.1) after) [
                | inl at ↦ let same : h ≡ pair_of i = sym (pair_of-index h facts.0) ∙ ap pair_of at in absurd (never_itself numbers (pair_of i) (ap (λ (q : Pair). before numbers q (pair_of i)) (sym same) ∙ first))
                | inr less ↦ absurd (never_both numbers h (pair_of i) first (first_before numbers (pair_of i) h counted facts.0 (subst (λ (k : ℕ). ComesFirst numbers k (index_of h)) (sym (index-pair_of i)) less)))
              ]
        ]
      ]

module _ (numbers : List ℕ) (size : length numbers ≡ 9216) (place : ℕ) (bytes : List ℕ) (last : Option ℕ) (t : Taken numbers place bytes last) where
  next_ranked : (i : ℕ) → IsNextIn numbers last 9216 i → Among (pair_of i) (t.done ++ t.rest)
  next_ranked i next =
      let e = pair_of_counts i next.within in
      let more : 0 < times_of numbers (pair_of i) = omega (arith, count_there numbers (pair_of i) e, ap (λ (k : ℕ). get_or numbers k 0) (index-pair_of i), next.some) in
      subst (Among (pair_of i)) t.split (ranked_among (times_of numbers) (pair_of i) e more)

  -- no further pair comes
  pub taken_end : IsNoneNext numbers last 9216 → bytes ≡ chosen (times_of numbers)
  taken_end none =
      let rest = none_left numbers t.done last t.is_last t.rest t.split (order numbers place bytes last t) (done_counts numbers place bytes last t) none in
      t.table ∙ ap (λ (l : List Pair). padded (bytes_of l)) (sym (t.split ∙ ap (λ (l : List Pair). t.done ++ l) rest ∙ append-nil t.done))

  -- one pair more
  pub taken_more : (i : ℕ) → place < 128 → IsNextIn numbers last 9216 i → Taken numbers (place + 1) (set (set bytes (2 * place) (32 + i / 96)) (2 * place + 1) (32 + i % 96)) (Some i)
  taken_more i few next =
      let p : Pair = pair_of i in
      let found = next_here numbers t.done last t.is_last i t.rest t.split (order numbers place bytes last t) (done_counts numbers place bytes last t) next (next_ranked i next) in
      record {
        done = t.done ++ p ∷ [];
        rest = found.0;
        split = t.split ∙ ap (λ (l : List Pair). t.done ++ l) found.1 ∙ sym (append_assoc t.done (p ∷ []) found.0);
        len = omega (arith, length-append t.done (p ∷ []), t.len);
        table = ap (λ (l : List ℕ). set (set l (2 * place) p.0) (2 * place + 1) p.1) t.table ∙ padded_more t.done p (2 * place) (2 * place + 1) (omega (arith, t.len, few)) (omega (arith, t.len)) (omega (arith, t.len));
        is_last = ap Some (sym (index-pair_of i)) ∙ sym (last_push None t.done p);
      }

last_by : (done : List Pair) (o : Option ℕ) → IfSome o (λ i. i < 9216) → Each (λ p. is_counted p ≡ true) done → IfSome (last_index o done) (λ i. i < 9216)
last_by [] o within all = within
last_by (p ∷ done) o within all = last_by done (Some (index_of p)) (index_below p all.0) all.1

pub taken_within : (numbers : List ℕ) (place : ℕ) (bytes : List ℕ) (last : Option ℕ) → Taken numbers place bytes last → IfSome last (λ i. i < 9216)
taken_within numbers place bytes last t = subst (λ (o : Option ℕ). IfSome o (λ i. i < 9216)) (sym t.is_last) (last_by t.done None tt (done_counts numbers place bytes last t))
