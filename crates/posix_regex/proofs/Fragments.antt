-- What the parts of an expression are put together to.
use Rattle.std.proofs.Common.{◌≡◌, ℕ, zero, suc, ◌+◌, ◌-◌, ◌*◌, ◌^◌, ◌≤◌, ◌<◌, min, max, List, [], ◌∷◌, ◌++◌, Some, None, refl, ap, ◌∙◌, arith, ⊎_elim}
use Rattle.std.proofs.Math.Nat.{suc-mul, mul-le-mul_right}
use Rattle.std.proofs.lemmas.Bool.{cases_lt}
use Rattle.posix_regex.specs.Expression.{Expression, OneOf, Start, End, Empty, Then, Or, Repeat, size}
use Rattle.posix_regex.specs.Program.{Item, Takes, AtStart, AtEnd, items_of, at_least, between, either}
use Rattle.posix_regex.specs.Fragment.{IsSized}

pub then_sized : (s t k : ℕ) (xs ys zs : List Item) (a b : Expression) → IsSized s xs a → IsSized t ys b → k ≡ min (s + t) 4097 → (k ≤ 4096 → zs ≡ xs ++ ys) → IsSized k zs (Then a b)
unfolding size items_of
then_sized s t k xs ys zs a b ha hb e f = record {
  cut_size = omega (arith, ha.cut_size, hb.cut_size);
  written = λ small. rw (← ha.written (omega arith), ← hb.written (omega arith)) (f (omega (arith, ha.cut_size, hb.cut_size)));
}

pub or_sized : (s t k : ℕ) (xs ys zs : List Item) (a b : Expression) → IsSized s xs a → IsSized t ys b → k ≡ min (s + t + 1) 4097 → (k ≤ 4096 → zs ≡ either xs ys) → IsSized k zs (Or a b)
unfolding size items_of
or_sized s t k xs ys zs a b ha hb e f = record {
  cut_size = omega (arith, ha.cut_size, hb.cut_size);
  written = λ small. rw (← ha.written (omega arith), ← hb.written (omega arith)) (f (omega (arith, ha.cut_size, hb.cut_size)));
}

capped : (count x y : ℕ) → y ≡ min x 4097 → min (count * (y + 1)) 4097 ≡ min (count * (x + 1)) 4097
capped zero x y e = omega arith
capped (suc count) x y e =
    ⊎_elim
    (λ (small : x < 4097). let same : y ≡ x = omega arith in ap (λ n. min (suc count * (n + 1)) 4097) same)
    (λ (big : 4097 ≤ x). omega (arith, suc-mul count (y + 1), suc-mul count (x + 1)))
    (cases_lt x 4097)

inner_small : (count x : ℕ) → 0 < count → count * (x + 1) ≤ 4096 → x ≤ 4096
inner_small zero x some h = absurd (omega arith)
inner_small (suc count) x some h = omega (arith, suc-mul count (x + 1))

pub at_least_sized : (s k least : ℕ) (xs zs : List Item) (a : Expression) → IsSized s xs a → k ≡ min (min (max least 1 * (s + 1)) 4097 + 1) 4097 → (k ≤ 4096 → zs ≡ at_least least xs) → IsSized k zs (Repeat a least None)
unfolding size items_of
at_least_sized s k least xs zs a ha e f =
    let c = capped (max least 1) (size a) s ha.cut_size in
    record {
      cut_size = omega (arith, c);
      written = λ small. rw (← ha.written (inner_small (max least 1) (size a) (omega arith) (omega arith))) (f (omega (arith, c)));
    }

nothing : (least more : ℕ) (xs ys : List Item) → least + more ≡ 0 → between least more xs ≡ between least more ys
nothing zero zero xs ys e = refl
nothing zero (suc more) xs ys e = absurd (omega arith)
nothing (suc least) more xs ys e = absurd (omega arith)

-- a count that is cut off far above asks for as much
far : (count x : ℕ) → min (min count (2 ^ 64 - 1) * (x + 1)) 4097 ≡ min (count * (x + 1)) 4097
far count x =
    ⊎_elim
    (λ (small : count < 2 ^ 64 - 1). let same : min count (2 ^ 64 - 1) ≡ count = omega arith in ap (λ n. min (n * (x + 1)) 4097) same)
    (λ (big : 2 ^ 64 - 1 ≤ count).
    let same : min count (2 ^ 64 - 1) ≡ 2 ^ 64 - 1 = omega arith in
    ap (λ n. min (n * (x + 1)) 4097) same ∙ omega (arith, mul-le-mul_right (x + 1) big))
    (cases_lt count (2 ^ 64 - 1))

pub between_sized : (s k least more : ℕ) (xs zs : List Item) (a : Expression) → IsSized s xs a → k ≡ min (min (least + more) (2 ^ 64 - 1) * (s + 1)) 4097 → (k ≤ 4096 → zs ≡ between least more xs) → IsSized k zs (Repeat a least (Some more))
unfolding size items_of
between_sized s k least more xs zs a ha e f =
    let c = e ∙ far (least + more) s ∙ capped (least + more) (size a) s ha.cut_size in
    record {
      cut_size = c;
      written = λ small. f (omega (arith, c)) ∙ ⊎_elim
          (λ (none : least + more < 1). nothing least more xs (items_of a) (omega arith))
          (λ (some : 1 ≤ least + more). ap (between least more) (ha.written (inner_small (least + more) (size a) some small)))
          (cases_lt (least + more) 1);
    }

single : (row before : List Item) (item : Item) → before ≡ [] → row ≡ before ++ item ∷ [] → row ≡ item ∷ []
single row before item none added = rw none at added

pub empty_sized : (row : List Item) → row ≡ [] → IsSized 0 row Empty
unfolding size items_of
empty_sized row e = record { cut_size = refl; written = λ small. e }

pub one_of_sized : (row before : List Item) (bytes : List ℕ) → before ≡ [] → row ≡ before ++ Takes bytes ∷ [] → IsSized 1 row (OneOf bytes)
unfolding size items_of
one_of_sized row before bytes none added = record { cut_size = refl; written = λ small. single row before (Takes bytes) none added }

pub start_sized : (row before : List Item) → before ≡ [] → row ≡ before ++ AtStart ∷ [] → IsSized 1 row Start
unfolding size items_of
start_sized row before none added = record { cut_size = refl; written = λ small. single row before AtStart none added }

pub end_sized : (row before : List Item) → before ≡ [] → row ≡ before ++ AtEnd ∷ [] → IsSized 1 row End
unfolding size items_of
end_sized row before none added = record { cut_size = refl; written = λ small. single row before AtEnd none added }
