-- Items that take one byte alone.
use Rattle.std.proofs.Common.{◌≡◌, ◌≢◌, ◌↔◌, ◌⊎◌, ℕ, suc, zero, ◌+◌, ◌<◌, Bool, true, false, List, ◌∷◌, filter, cond, Contains, refl, sym, ◌∙◌, subst, inl, inr, ⊎_elim, arith}
use Rattle.std.specs.List.{range_with_len}
use Rattle.std.proofs.lemmas.Bool.{cases_eq, eqb-true, eq-eqb, ne_eqb}
use Rattle.byte_class.specs.ByteSet.{members, IsAlone}
use Rattle.byte_class.proofs.Members.{members_pass, members_with}

first_or : (b : Bool) (a x : ℕ) (xs : List ℕ) → Contains (cond b (a ∷ xs) xs) x → (x ≡ a) ⊎ Contains xs x
first_or true a x xs (zero, lt, e) = inl (sym e)
first_or true a x xs (suc k, lt, e) = inr (k, omega arith, e)
first_or false a x xs h = inr h

few_pass : (test : ℕ → Bool) (a n x : ℕ) → Contains (filter test (range_with_len a n)) x → x < a + n
few_pass test a zero x h = absurd (omega (arith, h.1))
few_pass test a (suc n) x h = ⊎_elim
    (λ (e : x ≡ a). omega arith)
    (λ later. omega (arith, few_pass test (a + 1) n x later))
    (first_or (test a) a x (filter test (range_with_len (a + 1) n)) h)

pub members_fit : (test : ℕ → Bool) (x : ℕ) → Contains (members test) x → x < 256
unfolding members
members_fit test x h = few_pass test 0 256 x h

module _ (test : ℕ → Bool) (byte : ℕ) where
  pub only_from_alone : IsAlone test byte → (other : ℕ) → (Contains (members test) other ↔ (other ≡ byte))
  only_from_alone alone other = (
    λ has. eqb-true other byte (sym (alone.1 other (members_fit test other has)) ∙ members_pass test other has),
    λ e. subst (Contains (members test)) (sym e) (members_with test byte alone.0 (alone.1 byte alone.0 ∙ eq-eqb byte byte refl)),
  )

  pub alone_from_only : ((other : ℕ) → (Contains (members test) other ↔ (other ≡ byte))) → IsAlone test byte
  alone_from_only only = (
    members_fit test byte ((only byte).1 refl),
    λ other fits. ⊎_elim
        (λ (e : other ≡ byte). members_pass test other ((only other).1 e) ∙ sym (eq-eqb other byte e))
        (λ (ne : other ≢ byte). by other fits (test other) refl ne ∙ sym (ne_eqb other byte ne))
        (cases_eq other byte),
  ) where
    by : (other : ℕ) → other < 256 → (b : Bool) → test other ≡ b → other ≢ byte → test other ≡ false
    by other fits true e ne = absurd (ne ((only other).0 (members_with test other fits e)))
    by other fits false e ne = e
