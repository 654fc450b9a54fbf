-- The bytes by which a set is left.
use Rattle.std.proofs.Common.{◌≡◌, ℕ, zero, suc, ◌+◌, ◌-◌, ◌<◌, ◌≤◌, ◌==◌, ◌||◌, Bool, true, false, not, List, [], ◌∷◌, ◌++◌, length, take, drop, filter, cond, slice_index, Contains, refl, sym, ap, ◌∙◌, ⊎_elim, arith}
use Rattle.std.specs.List.{range_with_len}
use Rattle.std.proofs.lemmas.Bool.{false≢true, eq-eqb, eqb-true, or_right}
use Rattle.std.proofs.lemmas.List.Elements.{filter-append}
use Rattle.std.proofs.lemmas.List.{append-nil, get_or-take, get_or-drop, length-take}
use Rattle.memchr.specs.Find.{Nowhere, Passes}
use Rattle.byte_class.proofs.Members.{members_with}
use Rattle.posix_regex.specs.declared.leaving.Leaving.{Leaving}
use Rattle.posix_regex.specs.Leaving.{few, leaves, elsewhere}

range_last : (a n j : ℕ) → a + n ≡ j → range_with_len a (suc n) ≡ range_with_len a n ++ j ∷ []
range_last a zero j e = let same : a ≡ j = omega arith in ap (λ k. k ∷ []) same
range_last a (suc n) j e = ap (λ l. a ∷ l) (range_last (a + 1) n j (omega arith))

module _ (test : ℕ → Bool) (n : ℕ) where
  passes_one_more : filter test (range_with_len 0 (n + 1)) ≡ filter test (range_with_len 0 n) ++ cond (test n) (n ∷ []) []
  passes_one_more =
      let on : n + 1 ≡ suc n = omega arith in
      ap (λ k. filter test (range_with_len 0 k)) on ∙ ap (filter test) (range_last 0 n n (omega arith)) ∙ filter-append test (range_with_len 0 n) (n ∷ [])

  pub passes_more : test n ≡ true → filter test (range_with_len 0 (n + 1)) ≡ filter test (range_with_len 0 n) ++ n ∷ []
  passes_more h = passes_one_more ∙ ap (λ b. filter test (range_with_len 0 n) ++ cond b (n ∷ []) []) h

  pub passes_same : test n ≡ false → filter test (range_with_len 0 (n + 1)) ≡ filter test (range_with_len 0 n)
  passes_same h = passes_one_more ∙ ap (λ b. filter test (range_with_len 0 n) ++ cond b (n ∷ []) []) h ∙ append-nil (filter test (range_with_len 0 n))

or_false : (b c : Bool) → b || c ≡ false → (b ≡ false) × (c ≡ false)
or_false true c h = absurd (false≢true (sym h))
or_false false c h = (refl, h)

is_not : (a byte : ℕ) → (byte == a) ≡ false → a ≡ byte → ⊥
is_not a byte other e = false≢true (sym other ∙ eq-eqb byte a (sym e))

not_few : (bytes : List ℕ) (byte : ℕ) → leaves (few bytes) byte ≡ false → Contains bytes byte → ⊥
not_few [] byte other (k, lt, e) = omega arith
not_few (a ∷ []) byte other (zero, lt, e) = is_not a byte other e
not_few (a ∷ []) byte other (suc k, lt, e) = omega arith
not_few (a ∷ b ∷ []) byte other (zero, lt, e) = is_not a byte (or_false (byte == a) (byte == b) other).0 e
not_few (a ∷ b ∷ []) byte other (suc zero, lt, e) = is_not b byte (or_false (byte == a) (byte == b) other).1 e
not_few (a ∷ b ∷ []) byte other (suc (suc k), lt, e) = omega arith
not_few (a ∷ b ∷ c ∷ []) byte other (zero, lt, e) = is_not a byte (or_false (byte == a) (byte == b) (or_false (byte == a || byte == b) (byte == c) other).0).0 e
not_few (a ∷ b ∷ c ∷ []) byte other (suc zero, lt, e) = is_not b byte (or_false (byte == a) (byte == b) (or_false (byte == a || byte == b) (byte == c) other).0).1 e
not_few (a ∷ b ∷ c ∷ []) byte other (suc (suc zero), lt, e) = is_not c byte (or_false (byte == a || byte == b) (byte == c) other).1 e
not_few (a ∷ b ∷ c ∷ []) byte other (suc (suc (suc k)), lt, e) = omega arith
not_few (a ∷ b ∷ c ∷ d ∷ more) byte other has = false≢true (sym other)

pub stays : (next : List ℕ) (number byte : ℕ) (leaving : Leaving) → leaving ≡ few (elsewhere next number) → byte < 256 → leaves leaving byte ≡ false → slice_index next byte ≡ number
stays next number byte leaving is fits other = by (slice_index next byte == number) refl where
  by : (b : Bool) → (slice_index next byte == number) ≡ b → slice_index next byte ≡ number
  by true e = eqb-true (slice_index next byte) number e
  by false e = absurd (not_few (elsewhere next number) byte (rw (sym is) other) (members_with (λ x. not (slice_index next x == number)) byte fits (ap not e)))

-- where no byte of a part of the text passes, none does in the text
module _ (test : ℕ → Bool) (text : List ℕ) (from n : ℕ) where
  abbrev pub part : List ℕ
  part = take n (drop from text)

  pub none_in_part : (end : ℕ) → end ≤ length part → Nowhere (Passes test part) 0 end → (k : ℕ) → from ≤ k → k < from + end → test (slice_index text k) ≡ false
  none_in_part end le none k low high = by (test (slice_index text k)) refl where
    fits : k - from < n
    fits = omega (arith, length-take n (drop from text))

    same : slice_index part (k - from) ≡ slice_index text k
    same = get_or-take n (drop from text) (k - from) 0 fits ∙ get_or-drop from text (k - from) 0 ∙ ap (slice_index text) (omega arith)

    by : (b : Bool) → test (slice_index text k) ≡ b → test (slice_index text k) ≡ false
    by false e = e
    by true e = absurd (none (k - from) (omega arith) (omega arith) (ap test same ∙ e))
