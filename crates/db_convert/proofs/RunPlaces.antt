-- The places of runs.
use Rattle.std.proofs.Common.{◌≡◌, ℕ, zero, suc, ◌+◌, ◌-◌, ◌<◌, ◌≤◌, Bool, true, false, not, List, [], ◌∷◌, ◌++◌, get_or, refl, sym, ap, ◌∙◌, append_assoc, arith, true≢false, IsPermutation}
use Rattle.std.specs.Prelude.{◌||◌, nat_lt}
use Rattle.std.specs.List.{All, flat_map, list_any, range_with_len}
use Rattle.std.proofs.lemmas.Bool.{ltb-true, lt-ltb}
use Rattle.std.proofs.lemmas.Grind.{flat_map-append}
use Rattle.std.proofs.lemmas.List.{append-nil}
use Rattle.std.proofs.lemmas.List.Folds.{list_any-append, list_any_at, list_any_none}
use Rattle.std.proofs.lemmas.List.FromFn.{length-range_with_len, get_or-range_with_len}
use Rattle.std.proofs.lemmas.List.Sorted.{list_any-IsPermutation}
use Rattle.db_convert.specs.declared.order.Run.{Run}
use Rattle.db_convert.specs.Orders.{HasSame}
use Rattle.db_convert.specs.Runs.{places_in}

-- ranges side by side
pub range_join : (a n m : ℕ) → range_with_len a n ++ range_with_len (a + n) m ≡ range_with_len a (n + m)
range_join a zero m = ap (λ (k : ℕ). range_with_len k m) {x = a + 0} {y = a} (omega arith) ∙ ap (range_with_len a) {x = m} {y = 0 + m} (omega arith)
range_join a (suc n) m =
    ap (λ (rest : List ℕ). a ∷ rest) (ap (λ (k : ℕ). range_with_len (a + 1) n ++ range_with_len k m) {x = a + suc n} {y = a + 1 + n} (omega arith) ∙ range_join (a + 1) n m)
    ∙ ap (range_with_len a) {x = suc (n + m)} {y = suc n + m} (omega arith)

-- a place more
pub place_more : (old : List ℕ) (first at : ℕ) → first ≤ at → (old ++ range_with_len first (at - first)) ++ at ∷ [] ≡ old ++ range_with_len first (at + 1 - first)
place_more old first at le =
    append_assoc old (range_with_len first (at - first)) (at ∷ [])
    ∙ ap (λ (l : List ℕ). old ++ l) (ap (λ (k : ℕ). range_with_len first (at - first) ++ k ∷ []) {x = at} {y = first + (at - first)} (omega (arith, le))
    ∙ range_join first (at - first) 1 ∙ ap (range_with_len first) {x = at - first + 1} {y = at + 1 - first} (omega (arith, le)))

-- a run more
pub run_more : (runs : List Run) (first end : ℕ) → first ≤ end → flat_map places_in runs ≡ range_with_len 0 first → flat_map places_in (runs ++ record { first = first; end = end } ∷ []) ≡ range_with_len 0 end
run_more runs first end le made =
    flat_map-append places_in runs (record { first = first; end = end } ∷ [])
    ∙ (λ i. made i ++ append-nil (range_with_len first (end - first)) i)
    ∙ ap (λ (k : ℕ). range_with_len 0 first ++ range_with_len k (end - first)) {x = first} {y = 0 + first} (omega arith)
    ∙ range_join 0 first (end - first)
    ∙ ap (range_with_len 0) {x = first + (end - first)} {y = end} (omega (arith, le))

-- whether something holds of any of the places
any_place : (holds : ℕ → Bool) (runs : List Run) → list_any holds (flat_map places_in runs) ≡ list_any (λ run. list_any holds (places_in run)) runs
any_place holds [] = refl
any_place holds (run ∷ runs) = list_any-append holds (places_in run) (flat_map places_in runs) ∙ ap (λ (b : Bool). list_any holds (places_in run) || b) (any_place holds runs)

pub spread : (runs sorted : List Run) (places all : List ℕ) → flat_map places_in runs ≡ all → IsPermutation runs sorted → places ≡ flat_map places_in sorted → HasSame places all
spread runs sorted places all made moved laid holds =
    ap (list_any holds) laid ∙ any_place holds sorted ∙ sym (list_any-IsPermutation (λ (run : Run). list_any holds (places_in run)) runs sorted moved) ∙ sym (any_place holds runs) ∙ ap (list_any holds) made

-- the places of a list lie within it
pub same_within : (n : ℕ) (places : List ℕ) → HasSame places (range_with_len 0 n) → All (λ k. k < n) places
same_within n places same k d lt = by (nat_lt (get_or places k d) n) refl
  where
    past : ℕ → Bool
    past x = not (nat_lt x n)

    none : list_any (λ x. not (nat_lt x n)) (range_with_len 0 n) ≡ false
    none =
        list_any_none (λ x. not (nat_lt x n)) (range_with_len 0 n) (λ j e h.
        let below : j < n = omega (arith, h, length-range_with_len 0 n) in
        ap not (lt-ltb (get_or (range_with_len 0 n) j e) n (omega (arith, below, get_or-range_with_len 0 n j e below))))

    by : (b : Bool) → nat_lt (get_or places k d) n ≡ b → get_or places k d < n
    by true e = ltb-true _ n e
    by false e = absurd (true≢false (sym (list_any_at (λ x. not (nat_lt x n)) places k d lt (ap not e)) ∙ same (λ x. not (nat_lt x n)) ∙ none))
