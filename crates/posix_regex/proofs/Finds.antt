-- Where an expression is found is computed right.
use Rattle.std.proofs.Common.{◌≡◌, ◌↔◌, ℕ, zero, suc, ◌+◌, ◌-◌, ◌≤◌, ◌==◌, ◌&&◌, Bool, true, false, nat_eq, nat_lt, IsTrue, List, length, slice_index, get_or, map, filter, Contains, Option, Some, None, refl, sym, ◌∙◌, subst, inl, inr, ⊎_elim, arith}
use Rattle.std.specs.List.{list_any, range_with_len}
use Rattle.std.proofs.lemmas.Bool.{ltb-true, lt-ltb, eqb-true, eq-eqb, and_parts, and_from, cases_eq}
use Rattle.std.proofs.lemmas.List.Elements.{Contains-get_or}
use Rattle.posix_regex.specs.Expression.{Expression, OneOf, Start, End, Empty, Then, Or, Repeat, Times, Spans, IsAllowed, Found}
use Rattle.posix_regex.specs.Finds.{exactly, at_most, rounds, ends, finds}
use Rattle.posix_regex.proofs.Found.{Forward, times_forward, spans_forward}
use Rattle.posix_regex.proofs.Places.{from_filter, into_filter, from_next, into_next, from_any, into_any, from_joined, first_joined, second_joined, from_range, into_range}
use Rattle.posix_regex.proofs.Relations.{Next, Times-join, Times-split}

-- a place to which a step leads is one that the relation leads to from one of the places
abbrev Comes_from : (List ℕ → List ℕ) → (ℕ → ℕ → Type 0) → Type 0
Comes_from step R = (places : List ℕ) (j : ℕ) → Contains (step places) j → (i : ℕ) × Contains places i × R i j

exactly_from : (step : List ℕ → List ℕ) (R : ℕ → ℕ → Type 0) → Comes_from step R → (n : ℕ) → Comes_from (exactly n step) (Times R n)
exactly_from step R from zero places j h = (j, h, refl)
exactly_from step R from (suc n) places j h =
    let rest = exactly_from step R from n (step places) j h in
    let first = from places rest.0 rest.1 in
    (first.0, first.1, (rest.0, first.2, rest.2))

abbrev Few : (ℕ → ℕ → Type 0) → ℕ → ℕ → ℕ → Type 0
Few R n i j = (count : ℕ) × (count ≤ n) × Times R count i j

at_most_from : (step : List ℕ → List ℕ) (R : ℕ → ℕ → Type 0) → Comes_from step R → (n : ℕ) → Comes_from (at_most n step) (Few R n)
at_most_from step R from zero places j h = (j, h, (0, omega arith, refl))
at_most_from step R from (suc n) places j h =
    ⊎_elim
    (λ stays. (j, stays, (0, omega arith, refl)))
    (λ goes.
    let rest = at_most_from step R from n (step places) j goes in
    let first = from places rest.0 rest.1 in
    (first.0, first.1, (suc rest.2.0, omega (arith, rest.2.1), (rest.0, first.2, rest.2.2))))
    (from_joined places (at_most n step (step places)) j h)

allowed : (text : List ℕ) (least count : ℕ) (more : Option ℕ) → count ≤ rounds text more → IsAllowed least more (least + count)
allowed text least count None h = omega arith
allowed text least count (Some more) h = (omega arith, omega (arith, h))

ends_from : (text : List ℕ) (e : Expression) → Comes_from (ends e text) (Spans e text)
unfolding ends
ends_from text (OneOf bytes) places j h =
    let takes = λ (i : ℕ). nat_lt i (length text) && list_any (nat_eq (slice_index text i)) bytes in
    let next = from_next (filter takes places) j h in
    let kept = from_filter takes places next.0 next.1 in
    let parts = and_parts (nat_lt next.0 (length text)) (list_any (nat_eq (slice_index text next.0)) bytes) kept.1 in
    (next.0, kept.0, (ltb-true next.0 (length text) parts.0, next.2, from_any bytes (slice_index text next.0) parts.1))
ends_from text Start places j h =
    let kept = from_filter (λ i. i == 0) places j h in
    (j, kept.0, (eqb-true j 0 kept.1, eqb-true j 0 kept.1))
ends_from text End places j h =
    let kept = from_filter (λ i. i == length text) places j h in
    (j, kept.0, (eqb-true j (length text) kept.1, eqb-true j (length text) kept.1))
ends_from text Empty places j h = (j, h, refl)
ends_from text (Then a b) places j h =
    let second = ends_from text b (ends a text places) j h in
    let first = ends_from text a places second.0 second.1 in
    (first.0, first.1, (second.0, first.2, second.2))
ends_from text (Or a b) places j h =
    ⊎_elim
    (λ c. let f = ends_from text a places j c in (f.0, f.1, inl f.2))
    (λ c. let f = ends_from text b places j c in (f.0, f.1, inr f.2))
    (from_joined (ends a text places) (ends b text places) j h)
ends_from text (Repeat a least more) places j h =
    let rest = at_most_from (ends a text) (Spans a text) (ends_from text a) (rounds text more) (exactly least (ends a text) places) j h in
    let first = exactly_from (ends a text) (Spans a text) (ends_from text a) least places rest.0 rest.1 in
    (first.0, first.1, (least + rest.2.0, allowed text least rest.2.0 more rest.2.1, Times-join (Spans a text) least rest.2.0 first.0 rest.0 j first.2 rest.2.2))

-- a step leads to each place that the relation leads to from one of the places
abbrev Leads_to : List ℕ → (List ℕ → List ℕ) → (ℕ → ℕ → Type 0) → Type 0
Leads_to text step R = (places : List ℕ) (i j : ℕ) → i ≤ length text → Contains places i → R i j → Contains (step places) j

module _ (text : List ℕ) (step : List ℕ → List ℕ) (R : ℕ → ℕ → Type 0) (leads : Leads_to text step R) (forward : Forward text R) where
  exactly_leads : (n : ℕ) → Leads_to text (exactly n step) (Times R n)
  exactly_leads zero places i j within h r = subst (Contains places) r h
  exactly_leads (suc n) places i j within h r =
      exactly_leads n (step places) r.0 j (forward i r.0 within r.1).1 (leads places i r.0 within h r.1) r.2

  at_most_leads : (n count : ℕ) → count ≤ n → Leads_to text (at_most n step) (Times R count)
  at_most_leads zero zero few places i j within h r = subst (Contains places) r h
  at_most_leads zero (suc count) few places i j within h r = absurd (omega arith)
  at_most_leads (suc n) zero few places i j within h r =
      first_joined places (at_most n step (step places)) j (subst (Contains places) r h)
  at_most_leads (suc n) (suc count) few places i j within h r =
      second_joined places (at_most n step (step places)) j
      (at_most_leads n count (omega arith) (step places) r.0 j (forward i r.0 within r.1).1 (leads places i r.0 within h r.1) r.2)

  -- steps that stay at their place may be left out
  moving : (n i j : ℕ) → i ≤ length text → Times R n i j → (count : ℕ) × (count + i ≤ j) × Times R count i j
  moving zero i j within r = (0, omega (arith, r), r)
  moving (suc n) i j within r =
      let step = forward i r.0 within r.1 in
      let rest = moving n r.0 j step.1 r.2 in
      ⊎_elim
      (λ stays. (rest.0, omega (arith, stays, rest.1), subst (λ k. Times R rest.0 k j) (sym stays) rest.2))
      (λ goes. (suc rest.0, omega (arith, goes, step.0, rest.1), (r.0, r.1, rest.2)))
      (cases_eq i r.0)

  -- past the least, the rounds that are taken are enough
  enough : (least count : ℕ) (more : Option ℕ) (i j : ℕ) → i ≤ length text → IsAllowed least more count → Times R count i j → Next (Times R least) (Few R (rounds text more)) i j
  enough least count None i j within is r =
      let e : count ≡ least + (count - least) = omega (arith, is) in
      let t = Times-split R least (count - least) i j (subst (λ n. Times R n i j) e r) in
      let k = times_forward text R forward least i t.0 within t.1 in
      let few = moving (count - least) t.0 j k.1 t.2 in
      let end = times_forward text R forward (count - least) t.0 j k.1 t.2 in
      (t.0, t.1, (few.0, omega (arith, few.1, end.1), few.2))
  enough least count (Some more) i j within is r =
      let e : count ≡ least + (count - least) = omega (arith, is.0) in
      let t = Times-split R least (count - least) i j (subst (λ n. Times R n i j) e r) in
      (t.0, t.1, (count - least, omega (arith, is.0, is.1), t.2))

  repeat_leads : (least : ℕ) (more : Option ℕ) → Leads_to text (λ places. at_most (rounds text more) step (exactly least step places)) (λ i j. (n : ℕ) × IsAllowed least more n × Times R n i j)
  repeat_leads least more places i j within h r =
      let parts = enough least r.0 more i j within r.1 r.2 in
      at_most_leads (rounds text more) parts.2.0 parts.2.1 (exactly least step places) parts.0 j
      (times_forward text R forward least i parts.0 within parts.1).1
      (exactly_leads least places i parts.0 within h parts.1)
      parts.2.2

ends_leads : (text : List ℕ) (e : Expression) → Leads_to text (ends e text) (Spans e text)
unfolding ends
ends_leads text (OneOf bytes) places i j within h r =
    let takes = λ (k : ℕ). nat_lt k (length text) && list_any (nat_eq (slice_index text k)) bytes in
    let passes = and_from (nat_lt i (length text)) (list_any (nat_eq (slice_index text i)) bytes) (lt-ltb i (length text) r.0) (into_any bytes (slice_index text i) r.2) in
    subst (Contains (map (λ k. k + 1) (filter takes places))) (sym r.1) (into_next (filter takes places) i (into_filter takes places i h passes))
ends_leads text Start places i j within h r =
    into_filter (λ k. k == 0) places j (subst (Contains places) (r.0 ∙ sym r.1) h) (eq-eqb j 0 r.1)
ends_leads text End places i j within h r =
    into_filter (λ k. k == length text) places j (subst (Contains places) (r.0 ∙ sym r.1) h) (eq-eqb j (length text) r.1)
ends_leads text Empty places i j within h r = subst (Contains places) r h
ends_leads text (Then a b) places i j within h r =
    ends_leads text b (ends a text places) r.0 j (spans_forward text a i r.0 within r.1).1 (ends_leads text a places i r.0 within h r.1) r.2
ends_leads text (Or a b) places i j within h r =
    ⊎_elim
    (λ s. first_joined (ends a text places) (ends b text places) j (ends_leads text a places i j within h s))
    (λ s. second_joined (ends a text places) (ends b text places) j (ends_leads text b places i j within h s))
    r
ends_leads text (Repeat a least more) places i j within h r =
    repeat_leads text (ends a text) (Spans a text) (ends_leads text a) (spans_forward text a) least more places i j within h r

pub finds_found : (e : Expression) (text : List ℕ) → IsTrue (finds e text) → Found e text
unfolding finds
finds_found e text h =
    let all = range_with_len 0 (length text + 1) in
    let some = ltb-true 0 (length (ends e text all)) h in
    let j = get_or (ends e text all) 0 0 in
    let from = ends_from text e all j (Contains-get_or (ends e text all) 0 0 some) in
    let within : from.0 ≤ length text = omega (arith, from_range (length text + 1) from.0 from.1) in
    let f = spans_forward text e from.0 j within from.2 in
    (from.0, j, f.0, f.1, from.2)

pub found_finds : (e : Expression) (text : List ℕ) → Found e text → IsTrue (finds e text)
unfolding finds
found_finds e text h =
    let all = range_with_len 0 (length text + 1) in
    let within : h.0 ≤ length text = omega (arith, h.2, h.3) in
    let end = ends_leads text e all h.0 h.1 within (into_range (length text + 1) h.0 (omega (arith, within))) h.4 in
    lt-ltb 0 (length (ends e text all)) (omega (arith, end.1))

same_answer : (a b : Bool) → (IsTrue a → IsTrue b) → (IsTrue b → IsTrue a) → a ≡ b
same_answer true b f g = sym (f refl)
same_answer false true f g = g refl
same_answer false false f g = refl

-- a test that tells whether the expression is found is the computed one
pub is_finds : (e : Expression) (text : List ℕ) (b : Bool) → (IsTrue b ↔ Found e text) → b ≡ finds e text
is_finds e text b tells = same_answer b (finds e text) (λ t. found_finds e text (tells.0 t)) (λ f. tells.1 (finds_found e text f))
