-- Steps that follow one another.
use Rattle.std.proofs.Common.{◌≡◌, ◌⊎◌, ℕ, zero, suc, ◌+◌, ◌≤◌, refl, sym, subst, inl, inr, arith}
use Rattle.posix_regex.specs.Expression.{Times}

abbrev pub Next : (ℕ → ℕ → Type 0) → (ℕ → ℕ → Type 0) → ℕ → ℕ → Type 0
Next R S i j = (k : ℕ) × R i k × S k j

abbrev pub Maybe : (ℕ → ℕ → Type 0) → ℕ → ℕ → Type 0
Maybe R i j = (i ≡ j) ⊎ R i j

abbrev pub Some_times : (ℕ → ℕ → Type 0) → ℕ → ℕ → Type 0
Some_times R i j = (n : ℕ) × Times R (suc n) i j

module _ (R : ℕ → ℕ → Type 0) where
  pub Times-last : (n : ℕ) (i k j : ℕ) → Times R n i k → R k j → Times R (suc n) i j
  Times-last zero i k j e r = (j, subst (λ x. R x j) (sym e) r, refl)
  Times-last (suc n) i k j h r = (h.0, h.1, Times-last n h.0 k j h.2 r)

  pub Times-join : (m n : ℕ) (i k j : ℕ) → Times R m i k → Times R n k j → Times R (m + n) i j
  Times-join zero n i k j e h = subst (λ c. Times R c i j) (let f : n ≡ 0 + n = omega arith in f) (subst (λ x. Times R n x j) (sym e) h)
  Times-join (suc m) n i k j g h = subst (λ c. Times R c i j) (let f : suc (m + n) ≡ suc m + n = omega arith in f) (g.0, g.1, Times-join m n g.0 k j g.2 h)

  pub Times-split : (m n : ℕ) (i j : ℕ) → Times R (m + n) i j → Next (Times R m) (Times R n) i j
  Times-split zero n i j h = (i, refl, subst (λ c. Times R c i j) (let f : 0 + n ≡ n = omega arith in f) h)
  Times-split (suc m) n i j h =
      let g : Times R (suc (m + n)) i j = subst (λ c. Times R c i j) (let f : suc m + n ≡ suc (m + n) = omega arith in f) h in
      let t = Times-split m n g.0 j g.2 in
      (t.0, (g.0, g.1, t.1), t.2)

  maybe_more : (n i k j : ℕ) → Maybe R i k → (count : ℕ) × (count ≤ n) × Times R count k j → (count : ℕ) × (count ≤ suc n) × Times R count i j
  maybe_more n i k j (inl e) t = (t.0, omega (arith, t.1), subst (λ x. Times R t.0 x j) (sym e) t.2)
  maybe_more n i k j (inr r) t = (suc t.0, omega (arith, t.1), (k, r, t.2))

  pub Times-maybe : (n : ℕ) (i j : ℕ) → Times (Maybe R) n i j → (count : ℕ) × (count ≤ n) × Times R count i j
  Times-maybe zero i j e = (0, omega arith, e)
  Times-maybe (suc n) i j h = maybe_more n i h.0 j h.1 (Times-maybe n h.0 j h.2)

  pub Times-few : (n count : ℕ) (i j : ℕ) → count ≤ n → Times R count i j → Times (Maybe R) n i j
  Times-few zero zero i j within e = e
  Times-few zero (suc count) i j within h = absurd (omega arith)
  Times-few (suc n) zero i j within e = (i, inl refl, Times-few n 0 i j (omega arith) e)
  Times-few (suc n) (suc count) i j within h = (h.0, inr h.1, Times-few n count h.0 j (omega arith) h.2)
