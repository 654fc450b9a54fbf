-- States that are marked and listed.
use Rattle.std.proofs.Common.{◌≡◌, ◌≢◌, ◌⊎◌, ℕ, zero, suc, ◌+◌, ◌<◌, ◌≤◌, Bool, true, false, List, [], ◌∷◌, ◌++◌, length, take, drop, set, get_or, replicate, Contains, refl, sym, ap, ◌∙◌, subst, inl, inr, ⊎_elim, arith, add-one, get_or-set_other, get_or-set_same, length-set, length-drop, drop-cons}
use Rattle.std.proofs.Math.Seq.{take-suc-set}
use Rattle.std.proofs.lemmas.List.{length-take-le, get_or_past}
use Rattle.std.proofs.lemmas.Bool.{cases_eq, cases_lt, false≢true}
use Rattle.std.proofs.lemmas.List.Elements.{Contains-append_left, Contains-append_right, Contains-append_cases}
use Rattle.posix_regex.specs.StateSet.{marked, AreMarked}

pub marked-few : (marks : List Bool) → marked marks ≤ length marks
marked-few [] = omega arith
marked-few (true ∷ marks) = omega (arith, marked-few marks)
marked-few (false ∷ marks) = omega (arith, marked-few marks)

pub marked-room : (marks : List Bool) (s : ℕ) → s < length marks → get_or marks s false ≡ false → marked marks < length marks
marked-room [] s h e = absurd (omega arith)
marked-room (true ∷ marks) zero h e = absurd (false≢true (sym e))
marked-room (false ∷ marks) zero h e = omega (arith, marked-few marks)
marked-room (true ∷ marks) (suc s) h e = omega (arith, marked-room marks s (omega arith) e)
marked-room (false ∷ marks) (suc s) h e = omega (arith, marked-room marks s (omega arith) e)

marked-set : (marks : List Bool) (s : ℕ) → s < length marks → get_or marks s false ≡ false → marked (set marks s true) ≡ marked marks + 1
marked-set [] s h e = absurd (omega arith)
marked-set (true ∷ marks) zero h e = absurd (false≢true (sym e))
marked-set (false ∷ marks) zero h e = omega arith
marked-set (true ∷ marks) (suc s) h e = omega (arith, marked-set marks s (omega arith) e)
marked-set (false ∷ marks) (suc s) h e = marked-set marks s (omega arith) e

marked-none : (n : ℕ) → marked (replicate n false) ≡ 0
marked-none zero = refl
marked-none (suc n) = marked-none n

none-there : (n s : ℕ) → get_or (replicate n false) s false ≡ false
none-there zero s = refl
none-there (suc n) zero = refl
none-there (suc n) (suc s) = none-there n s

length-none : (n : ℕ) → length (replicate n false) ≡ n
length-none zero = refl
length-none (suc n) = ap suc (length-none n)

pub are_marked-none : (order : List ℕ) (marks : List Bool) (n : ℕ) → marks ≡ replicate n false → length order ≡ n → AreMarked order 0 marks
are_marked-none order marks n e same = record {
  same_length = same ∙ sym (ap length e ∙ length-none n);
  counted = sym (ap marked e ∙ marked-none n);
  listed = λ s within is. absurd (false≢true (sym (none-there n s) ∙ subst (λ m. get_or m s false ≡ true) e is));
  below = λ s h. absurd (omega (arith, h.1));
}

module _ (order : List ℕ) (count s : ℕ) (marks : List Bool) (h : AreMarked order count marks) (within : s < length marks) (free : get_or marks s false ≡ false) where
  pub room : count < length order
  room = omega (arith, h.same_length, h.counted, marked-room marks s within free)

  pub took : take (count + 1) (set order count s) ≡ take count order ++ s ∷ []
  took = rw (add-one count) (take-suc-set order count s room)

  same_mark : (t : ℕ) → t ≢ s → get_or (set marks s true) t false ≡ get_or marks t false
  same_mark t ne = get_or-set_other marks s t true false ne

  own_mark : get_or (set marks s true) s false ≡ true
  own_mark = get_or-set_same marks s true false within

  pub are_marked-more : AreMarked (set order count s) (count + 1) (set marks s true)
  are_marked-more = record {
    same_length = length-set order count s ∙ h.same_length ∙ sym (length-set marks s true);
    counted = omega (arith, h.counted, marked-set marks s within free);
    listed = λ t inside is. subst (λ l. Contains l t) (sym took) (⊎_elim
        (λ (e : t ≡ s). Contains-append_right (take count order) (s ∷ []) t (0, omega arith, sym e))
        (λ (ne : t ≢ s). Contains-append_left (take count order) (s ∷ []) t (h.listed t (omega (arith, inside, length-set marks s true)) (sym (same_mark t ne) ∙ is)))
        (cases_eq t s));
    below = λ t has. ⊎_elim
        (λ old. let b = h.below t old in (omega (arith, b.0, length-set marks s true), still t b.1 (cases_eq t s)))
        (λ new. let e : t ≡ s = only t new in (omega (arith, e, within, length-set marks s true), subst (λ x. get_or (set marks s true) x false ≡ true) (sym e) own_mark))
        (Contains-append_cases (take count order) (s ∷ []) t (subst (λ l. Contains l t) took has));
  } where
    still : (t : ℕ) → get_or marks t false ≡ true → (t ≡ s) ⊎ (t ≢ s) → get_or (set marks s true) t false ≡ true
    still t is (inl e) = subst (λ x. get_or (set marks s true) x false ≡ true) (sym e) own_mark
    still t is (inr ne) = same_mark t ne ∙ is

    only : (t : ℕ) → Contains (s ∷ []) t → t ≡ s
    only t (zero, _, e) = sym e
    only t (suc k, lt, e) = absurd (omega arith)

pub shown-count : (order : List ℕ) (count : ℕ) (marks : List Bool) → AreMarked order count marks → length (take count order) ≡ count
shown-count order count marks h = length-take-le count order (omega (arith, h.same_length, h.counted, marked-few marks))

marked-cleared : (marks : List Bool) → ((k : ℕ) → get_or marks k false ≡ false) → marked marks ≡ 0
marked-cleared [] h = refl
marked-cleared (true ∷ marks) h = absurd (false≢true (sym (h 0)))
marked-cleared (false ∷ marks) h = marked-cleared marks (λ k. h (suc k))

pub are_marked-cleared : (order : List ℕ) (marks : List Bool) → ((k : ℕ) → get_or marks k false ≡ false) → length order ≡ length marks → AreMarked order 0 marks
are_marked-cleared order marks h same = record {
  same_length = same;
  counted = sym (marked-cleared marks h);
  listed = λ s within is. absurd (false≢true (sym (h s) ∙ is));
  below = λ s has. absurd (omega (arith, has.1));
}

same_default : (l : List ℕ) (k d e : ℕ) → k < length l → get_or l k d ≡ get_or l k e
same_default [] k d e h = absurd (omega arith)
same_default (x ∷ l) zero d e h = refl
same_default (x ∷ l) (suc k) d e h = same_default l k d e (omega arith)

pub below-at : (order : List ℕ) (count place x : ℕ) (marks : List Bool) → AreMarked order count marks → place < length (take count order) → x ≡ get_or (take count order) place 0 → x < length marks
below-at order count place x marks h within is = (h.below x (place, within, same_default (take count order) place x 0 within ∙ sym is)).0

-- where each mark is that of a state still listed, none is left where none is listed
pub unmarked_last : (listed : List ℕ) (marks : List Bool) (k : ℕ) → length listed ≤ k → ((s : ℕ) → s < length marks → get_or marks s false ≡ true → Contains (drop k listed) s) → (s : ℕ) → get_or marks s false ≡ false
unmarked_last listed marks k done left s = by (get_or marks s false) refl where
  none : get_or marks s false ≡ true → ⊥
  none e = ⊎_elim
      (λ (within : s < length marks). omega (arith, (left s within e).1, length-drop k listed))
      (λ (past : length marks ≤ s). false≢true (sym (get_or_past marks s false past) ∙ e))
      (cases_lt s (length marks))

  by : (b : Bool) → get_or marks s false ≡ b → get_or marks s false ≡ false
  by true e = absurd (none e)
  by false e = e

-- taking the next one away
pub unmarked_next : (listed : List ℕ) (marks : List Bool) (k : ℕ) → k < length listed → get_or listed k 0 < length marks → ((s : ℕ) → s < length marks → get_or marks s false ≡ true → Contains (drop k listed) s)
    → (s : ℕ) → s < length (set marks (get_or listed k 0) false) → get_or (set marks (get_or listed k 0) false) s false ≡ true → Contains (drop (k + 1) listed) s
unmarked_next listed marks k within fits left s inside is = ⊎_elim
    (λ (e : s ≡ get_or listed k 0). absurd (false≢true (sym (get_or-set_same marks (get_or listed k 0) false false fits) ∙ subst (λ x. get_or (set marks (get_or listed k 0) false) x false ≡ true) e is)))
    (λ (ne : s ≢ get_or listed k 0).
    later (left s (omega (arith, inside, length-set marks (get_or listed k 0) false)) (sym (get_or-set_other marks (get_or listed k 0) s false false ne) ∙ is)) ne)
    (cases_eq s (get_or listed k 0)) where
      tail : (xs : List ℕ) (x : ℕ) → Contains (x ∷ xs) s → s ≢ x → Contains xs s
      tail xs x (zero, lt, e) ne = absurd (ne (sym e))
      tail xs x (suc n, lt, e) ne = (n, omega arith, e)

      later : Contains (drop k listed) s → s ≢ get_or listed k 0 → Contains (drop (k + 1) listed) s
      later h ne = rw (add-one k) (tail (drop (suc k) listed) (get_or listed k 0) (subst (λ l. Contains l s) (drop-cons listed k 0 within) h) ne)
