-- Counting the pairs of a list of paths, one path after the other.
use Rattle.std.proofs.Common.{◌≡◌, Bor, map, ℕ, ◌+◌, ◌*◌, ◌^◌, ◌<◌, ◌≤◌, List, [], ◌∷◌, ◌++◌, length, get_or, take, ap, sym, subst, ◌∙◌, arith}
use Rattle.std.specs.Prelude.{sum_by}
use Rattle.std.specs.List.{flat_map}
use Rattle.std.proofs.lemmas.List.{take_more, take_all, get_or-map}
use Rattle.std.proofs.lemmas.List.Sums.{sum_by-take-le, sum_by-cons}
use Rattle.bigram_db.specs.Pairs.{Pair}
use Rattle.bigram_db.specs.Chosen.{remainders, path_before, counted_in, counted_behind, counted, times, chosen, table_for}
use Rattle.bigram_db.specs.Counts.{times_of}
use Rattle.bigram_db.proofs.PairCounting.{times-append}
use Rattle.bigram_db.proofs.TableLaws.{counted_one_more, before_more, counted_few, chosen_by}

-- The pairs of these paths were counted, of which this one is the last.
pub record CountsPaths (numbers before : List ℕ) (paths : List (List ℕ)) : Type 0 where
  pub counts : (p : Pair) → times_of numbers p ≡ times (counted paths) p
  pub last : before ≡ path_before [] paths

pub counts_none : (numbers : List ℕ) (paths : List (List ℕ)) → ((p : Pair) → times_of numbers p ≡ 0) → CountsPaths numbers [] (take 0 paths)
counts_none numbers paths none = record { counts = none; last = λ i. [] }

pub counts_more : (numbers numbers' before : List ℕ) (paths : List (List ℕ)) (i : ℕ) (path : List ℕ) → i < length paths → path ≡ get_or paths i []
    → CountsPaths numbers before (take i paths) → ((p : Pair) → times_of numbers' p ≡ times_of numbers p + times (counted_behind before path) p) → CountsPaths numbers' path (take (i + 1) paths)
counts_more numbers numbers' before paths i path lt is h add =
    let on : take (i + 1) paths ≡ take i paths ++ path ∷ [] = take_more paths i [] lt ∙ ap (λ (q : List ℕ). take i paths ++ q ∷ []) (sym is) in
    subst (CountsPaths numbers' path) (sym on) (record {
      counts = λ p.
          add p ∙ ap (λ (n : ℕ). n + times (counted_behind before path) p) (h.counts p)
          ∙ ap (λ (b : List ℕ). times (counted (take i paths)) p + times (counted_behind b path) p) h.last
          ∙ sym (counted_one_more (take i paths) path p);
      last = sym (before_more [] (take i paths) path);
    })

few_in : (before : List ℕ) (paths : List (List ℕ)) (p : Pair) → 2 * times (flat_map counted_in (remainders before paths)) p ≤ sum_by length paths
few_in before [] p = omega arith
few_in before (path ∷ paths) p =
    omega (arith, sum_by-cons (length {A = ℕ}) path paths, times-append (counted_behind before path) (flat_map counted_in (remainders path paths)) p, counted_few before path p, few_in path paths p)

-- No pair comes more often than the paths have two bytes for.
pub counts_below : (numbers before : List ℕ) (paths : List (List ℕ)) (i : ℕ) (p : Pair) → CountsPaths numbers before (take i paths) → sum_by length paths < 2 ^ 63 → times_of numbers p < 2 ^ 62
counts_below numbers before paths i p h below = omega (arith, h.counts p, few_in [] (take i paths) p, sum_by-take-le length paths i)

pub counts_all : (numbers before : List ℕ) (paths : List (List ℕ)) (i : ℕ) → CountsPaths numbers before (take i paths) → length paths ≤ i → chosen (times_of numbers) ≡ table_for paths
counts_all numbers before paths i h end = chosen_by (times_of numbers) paths (λ p. h.counts p ∙ ap (λ (l : List (List ℕ)). times (counted l) p) (take_all i paths end))

-- ---- paths as they are passed

abbrev pub texts : List (Bor (List ℕ)) → List (List ℕ)
texts paths = map (λ p. p.now) paths

pub text_at : (paths : List (Bor (List ℕ))) (i : ℕ) (d : Bor (List ℕ)) → i < length paths → (get_or paths i d).now ≡ get_or (texts paths) i []
text_at paths i d lt = sym (get_or-map (λ (p : Bor (List ℕ)). p.now) paths i d [] lt)
