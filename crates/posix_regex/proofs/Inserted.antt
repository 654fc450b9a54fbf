-- A set with at most one state more.
use Rattle.std.proofs.Common.{◌≡◌, ◌⊎◌, ℕ, zero, suc, ◌<◌, ◌≤◌, List, [], ◌∷◌, ◌++◌, length, get_or, Contains, refl, ap, ◌∙◌, length-append, sym, subst, inl, inr, ⊎_elim, arith}
use Rattle.std.proofs.lemmas.List.Elements.{Contains-append_left, Contains-append_cases}

alone : (s t : ℕ) → Contains (t ∷ []) s → s ≡ t
alone s t (zero, _, e) = sym e
alone s t (suc k, h, e) = absurd (omega arith)

pub only_more : (old new : List ℕ) (w t s : ℕ) → (new ≡ old) ⊎ ((t < w) × (new ≡ old ++ t ∷ [])) → Contains new s → Contains old s ⊎ ((t < w) × (s ≡ t))
only_more old new w t s how has = ⊎_elim
    (λ e. inl (subst (λ l. Contains l s) e has))
    (λ e. ⊎_elim (λ h. inl h) (λ h. inr (e.0, alone s t h)) (Contains-append_cases old (t ∷ []) s (subst (λ l. Contains l s) e.1 has)))
    how

pub kept_more : (old new : List ℕ) (w t s : ℕ) → (new ≡ old) ⊎ ((t < w) × (new ≡ old ++ t ∷ [])) → Contains old s → Contains new s
kept_more old new w t s how has = ⊎_elim
    (λ e. subst (λ l. Contains l s) (sym e) has)
    (λ e. subst (λ l. Contains l s) (sym e.1) (Contains-append_left old (t ∷ []) s has))
    how

same_default : (l : List ℕ) (k d e : ℕ) → k < length l → get_or l k d ≡ get_or l k e
same_default [] k d e h = absurd (omega arith)
same_default (x ∷ l) zero d e h = refl
same_default (x ∷ l) (suc k) d e h = same_default l k d e (omega arith)

pub contains_at : (l : List ℕ) (k x : ℕ) → k < length l → x ≡ get_or l k 0 → Contains l x
contains_at l k x within is = (k, within, same_default l k x 0 within ∙ sym is)

pub place_of : (l : List ℕ) (x : ℕ) → Contains l x → (k : ℕ) × (k < length l) × (get_or l k 0 ≡ x)
place_of l x h = (h.0, h.1, same_default l h.0 0 x h.1 ∙ h.2)

pub grew : (old mid new : List ℕ) (w t : ℕ) → (new ≡ old) ⊎ ((t < w) × (new ≡ old ++ t ∷ [])) → length old ≤ length new
grew old mid new w t how = ⊎_elim (λ e. omega (arith, ap length e)) (λ e. omega (arith, ap length e.1, length-append old (t ∷ []))) how
