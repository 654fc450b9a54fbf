-- What the items of an expression lead to is what it spans.
use Rattle.std.proofs.Common.{◌≡◌, ◌⊎◌, ℕ, zero, suc, ◌+◌, ◌<◌, List, [], ◌∷◌, ◌++◌, length, slice_get, Option, Some, None, refl, sym, ap, ◌∙◌, subst, inl, inr, ⊎_elim, arith, length-append}
use Rattle.posix_regex.specs.Expression.{Expression, OneOf, Start, End, Empty, Then, Or, Repeat, Times, Spans, IsAllowed}
use Rattle.posix_regex.specs.Program.{Item, Takes, AtStart, AtEnd, Fork, Back, Skip, items_of, copies, optional, again, at_least, between, either}
use Rattle.posix_regex.specs.Moves.{Leads}
use Rattle.posix_regex.proofs.Relations.{Next, Maybe, Some_times, Times-last, Times-join, Times-maybe}

-- an item of the first part, and of the second
pub get_first : (a b : List Item) (s : ℕ) → s < length a → slice_get (a ++ b) s ≡ slice_get a s
get_first [] b s h = absurd (omega arith)
get_first (x ∷ a) b zero h = refl
get_first (x ∷ a) b (suc s) h = get_first a b s (omega arith)

pub get_second : (a b : List Item) (s : ℕ) → slice_get (a ++ b) (length a + s) ≡ slice_get b s
get_second [] b s = ap (slice_get b) (omega arith)
get_second (x ∷ a) b s = ap (slice_get (x ∷ (a ++ b))) (let e : length (x ∷ a) + s ≡ suc (length a + s) = omega arith in e) ∙ get_second a b s

-- the same move of the same item, written otherwise
pub lead_at : (text : List ℕ) (o p : Option Item) (s t i u j : ℕ) → o ≡ p → s ≡ t → Leads text o s i u j → Leads text p t i u j
lead_at text o p s t i u j e f lead = subst (λ x. Leads text p x i u j) f (subst (λ x. Leads text x s i u j) e lead)

-- the places of a text where items are left that were entered at some places
abbrev pub Out : (ℕ → ℕ → Type 0) → (ℕ → Type 0) → ℕ → Type 0
Out R In j = (k : ℕ) × In k × R k j

-- an item inside a row that was reached at a place of the text, or the end of the row
abbrev pub Within : (ℕ → ℕ → Type 0) → List Item → (ℕ → ℕ → Type 0) → (ℕ → Type 0) → ℕ → ℕ → Type 0
Within Inner items R In s i = Inner s i ⊎ ((s ≡ length items) × Out R In i)

-- what items that are entered at some places of a text lead to, wherever the row stands
pub record Covers (text : List ℕ) (items : List Item) (R : ℕ → ℕ → Type 0) (In : ℕ → Type 0) : Type 1 where
  pub Inner : ℕ → ℕ → Type 0
  pub inside : (s i : ℕ) → Inner s i → s < length items
  pub enters : (i : ℕ) → In i → Within Inner items R In 0 i
  pub leads : (d s i u j : ℕ) → Inner s i → Leads text (slice_get items s) (d + s) i u j → (t : ℕ) × (u ≡ d + t) × Within Inner items R In t j

abbrev pub Sound : List ℕ → List Item → (ℕ → ℕ → Type 0) → Type 1
Sound text items R = (In : ℕ → Type 0) → Covers text items R In

module _ (text : List ℕ) where
  pub sound_more : (items : List Item) (R S : ℕ → ℕ → Type 0) → ((i j : ℕ) → R i j → S i j) → Sound text items R → Sound text items S
  sound_more items R S f a In =
      let c = a In in
      let on : (t j : ℕ) → Within c.Inner items R In t j → Within c.Inner items S In t j =
      λ t j. ⊎_elim (λ inner. inl inner) (λ out. inr (out.0, (out.1.0, out.1.1, f out.1.0 j out.1.2))) in
      record {
        Inner = c.Inner;
        inside = c.inside;
        enters = λ i h. on 0 i (c.enters i h);
        leads = λ d s i u j h lead. let t = c.leads d s i u j h lead in (t.0, t.1, on t.0 j t.2);
      }

  pub sound_empty : Sound text [] (λ i j. i ≡ j)
  sound_empty In = record {
    Inner = λ s i. ⊥;
    inside = λ s i h. absurd h;
    enters = λ i h. inr (refl, (i, h, refl));
    leads = λ d s i u j h lead. absurd h;
  }

  pub sound_one : (x : Item) (R : ℕ → ℕ → Type 0) → ((s i t j : ℕ) → Leads text (Some x) s i t j → (t ≡ s + 1) × R i j) → Sound text (x ∷ []) R
  sound_one x R f In = record {
    Inner = λ s i. (s ≡ 0) × In i;
    inside = λ s i h. omega (arith, h.0);
    enters = λ i h. inl (refl, h);
    leads = λ d s i u j h lead.
        let got : slice_get (x ∷ []) s ≡ Some x = ap (slice_get (x ∷ [])) h.0 in
        let g = f (d + s) i u j (subst (λ o. Leads text o (d + s) i u j) got lead) in
        (1, omega (arith, g.0, h.0), inr (refl, (i, h.1, g.1)));
  }

  module _ (a b : List Item) (R S : ℕ → ℕ → Type 0) (sa : Sound text a R) (sb : Sound text b S) where
    pub sound_then : Sound text (a ++ b) (Next R S)
    sound_then In =
        let ca = sa In in
        let cb = sb (Out R In) in
        let Inside : ℕ → ℕ → Type 0 = λ s i. ca.Inner s i ⊎ ((r : ℕ) × (s ≡ length a + r) × cb.Inner r i) in
        let len : length (a ++ b) ≡ length a + length b = length-append a b in
        let second : (r j : ℕ) → Within cb.Inner b S (Out R In) r j → Within Inside (a ++ b) (Next R S) In (length a + r) j =
        λ r j. ⊎_elim
        (λ inner. inl (inr (r, refl, inner)))
        (λ out. inr (omega (arith, out.0, len), (out.1.1.0, out.1.1.1, (out.1.0, out.1.1.2, out.1.2)))) in
        let first : (t j : ℕ) → Within ca.Inner a R In t j → Within Inside (a ++ b) (Next R S) In t j =
        λ t j. ⊎_elim
        (λ inner. inl (inl inner))
        (λ out. subst (λ t'. Within Inside (a ++ b) (Next R S) In t' j) (let e : length a + 0 ≡ t = omega (arith, out.0) in e) (second 0 j (cb.enters j out.1))) in
        record {
          Inner = Inside;
          inside = λ s i h. ⊎_elim (λ inner. omega (arith, ca.inside s i inner, len)) (λ r. omega (arith, r.1, cb.inside r.0 i r.2, len)) h;
          enters = λ i h. first 0 i (ca.enters i h);
          leads = λ d s i u j h lead. ⊎_elim
              (λ inner.
              let t = ca.leads d s i u j inner (subst (λ o. Leads text o (d + s) i u j) (get_first a b s (ca.inside s i inner)) lead) in
              (t.0, t.1, first t.0 j t.2))
              (λ r.
              let got : slice_get (a ++ b) s ≡ slice_get b r.0 = ap (slice_get (a ++ b)) r.1 ∙ get_second a b r.0 in
              let at : d + s ≡ (d + length a) + r.0 = omega (arith, r.1) in
              let t = cb.leads (d + length a) r.0 i u j r.2 (subst (λ p. Leads text (slice_get b r.0) p i u j) at (subst (λ o. Leads text o (d + s) i u j) got lead)) in
              (length a + t.0, omega (arith, t.1), second t.0 j t.2))
              h;
        }

  module _ (a : List Item) (R : ℕ → ℕ → Type 0) (sa : Sound text a R) where
    pub sound_optional : Sound text (optional a) (Maybe R)
    sound_optional In =
        let ca = sa In in
        let Inside : ℕ → ℕ → Type 0 = λ s i. ((s ≡ 0) × In i) ⊎ ((r : ℕ) × (s ≡ 1 + r) × ca.Inner r i) in
        let on : (r j : ℕ) → Within ca.Inner a R In r j → Within Inside (optional a) (Maybe R) In (1 + r) j =
        λ r j. ⊎_elim
        (λ inner. inl (inr (r, refl, inner)))
        (λ out. inr (omega (arith, out.0), (out.1.0, out.1.1, inr out.1.2))) in
        record {
          Inner = Inside;
          inside = λ s i h. ⊎_elim (λ z. omega (arith, z.0)) (λ r. omega (arith, r.1, ca.inside r.0 i r.2)) h;
          enters = λ i h. inl (inl (refl, h));
          leads = λ d s i u j h lead. ⊎_elim
              (λ z.
              let got : slice_get (optional a) s ≡ Some (Fork (length a + 1)) = ap (slice_get (optional a)) z.0 in
              let g = subst (λ o. Leads text o (d + s) i u j) got lead in
              let there : In j = subst In (sym g.0) z.1 in
              ⊎_elim
              (λ next. (1, omega (arith, next, z.0), subst (λ t'. Within Inside (optional a) (Maybe R) In t' j) (let e : 1 + 0 ≡ 1 = omega arith in e) (on 0 j (ca.enters j there))))
              (λ past. (1 + length a, omega (arith, past, z.0), inr (omega arith, (j, there, inl refl))))
              g.1)
              (λ r.
              let got : slice_get (optional a) s ≡ slice_get a r.0 = ap (slice_get (optional a)) (r.1 ∙ (let e : 1 + r.0 ≡ suc r.0 = omega arith in e)) in
              let at : d + s ≡ (d + 1) + r.0 = omega (arith, r.1) in
              let t = ca.leads (d + 1) r.0 i u j r.2 (subst (λ p. Leads text (slice_get a r.0) p i u j) at (subst (λ o. Leads text o (d + s) i u j) got lead)) in
              (1 + t.0, omega (arith, t.1), on t.0 j t.2))
              h;
        }

    pub sound_again : Sound text (again a) (Some_times R)
    sound_again In =
        let Before : ℕ → Type 0 = λ k. (i : ℕ) × In i × (n : ℕ) × Times R n i k in
        let ca = sa Before in
        let Inside : ℕ → ℕ → Type 0 = λ s i. ca.Inner s i ⊎ ((s ≡ length a) × Out (Some_times R) In i) in
        let len : length (again a) ≡ length a + 1 = length-append a (Back (length a) ∷ []) in
        let on : (t j : ℕ) → Within ca.Inner a R Before t j → Within Inside (again a) (Some_times R) In t j =
        λ t j. ⊎_elim
        (λ inner. inl (inl inner))
        (λ out. inl (inr (out.0, (out.1.1.0, out.1.1.1, (out.1.1.2, Times-last R out.1.1.2 out.1.1.0 out.1.0 j out.1.1.3 out.1.2))))) in
        record {
          Inner = Inside;
          inside = λ s i h. ⊎_elim (λ inner. omega (arith, ca.inside s i inner, len)) (λ out. omega (arith, out.0, len)) h;
          enters = λ i h. on 0 i (ca.enters i (i, h, 0, refl));
          leads = λ d s i u j h lead. ⊎_elim
              (λ inner.
              let t = ca.leads d s i u j inner (subst (λ o. Leads text o (d + s) i u j) (get_first a (Back (length a) ∷ []) s (ca.inside s i inner)) lead) in
              (t.0, t.1, on t.0 j t.2))
              (λ out.
              let got : slice_get (again a) s ≡ Some (Back (length a)) = ap (slice_get (again a)) (out.0 ∙ (let e : length a ≡ length a + 0 = omega arith in e)) ∙ get_second a (Back (length a) ∷ []) 0 in
              let g = subst (λ o. Leads text o (d + s) i u j) got lead in
              ⊎_elim
              (λ next. (length a + 1, omega (arith, next, out.0), inr (sym len, subst (λ p. Out (Some_times R) In p) (sym g.0) out.1)))
              (λ back. (0, omega (arith, back, out.0), on 0 j (ca.enters j (subst Before (sym g.0) (out.1.0, out.1.1, suc out.1.2.0, out.1.2.1)))))
              g.1)
              h;
        }

    pub sound_copies : (n : ℕ) → Sound text (copies n a) (Times R n)
    sound_copies zero = sound_empty
    sound_copies (suc n) = sound_then a (copies n a) R (Times R n) sa (sound_copies n)

  pub sound_at_least : (a : List Item) (R : ℕ → ℕ → Type 0) → Sound text a R → (least : ℕ) → Sound text (at_least least a) (λ i j. (n : ℕ) × IsAllowed least None n × Times R n i j)
  sound_at_least a R sa zero =
      sound_more (at_least zero a) (Maybe (Some_times R)) (λ i j. (n : ℕ) × IsAllowed zero None n × Times R n i j)
      (λ i j. ⊎_elim (λ e. (0, omega arith, e)) (λ h. (suc h.0, omega arith, h.1)))
      (sound_optional (again a) (Some_times R) (sound_again a R sa))
  sound_at_least a R sa (suc least) =
      sound_more (at_least (suc least) a) (Next (Times R least) (Some_times R)) (λ i j. (n : ℕ) × IsAllowed (suc least) None n × Times R n i j)
      (λ i j h. (least + suc h.2.0, omega arith, Times-join R least (suc h.2.0) i h.0 j h.1 h.2.1))
      (sound_then (copies least a) (again a) (Times R least) (Some_times R) (sound_copies a R sa least) (sound_again a R sa))

  pub sound_between : (a : List Item) (R : ℕ → ℕ → Type 0) → Sound text a R → (least more : ℕ) → Sound text (between least more a) (λ i j. (n : ℕ) × IsAllowed least (Some more) n × Times R n i j)
  sound_between a R sa least more =
      sound_more (between least more a) (Next (Times R least) (Times (Maybe R) more)) (λ i j. (n : ℕ) × IsAllowed least (Some more) n × Times R n i j)
      (λ i j h.
      let t = Times-maybe R more h.0 j h.2 in
      (least + t.0, (omega arith, omega (arith, t.1)), Times-join R least t.0 i h.0 j h.1 t.2))
      (sound_then (copies least a) (copies more (optional a)) (Times R least) (Times (Maybe R) more) (sound_copies a R sa least) (sound_copies (optional a) (Maybe R) (sound_optional a R sa) more))

  sound_either : (a b : List Item) (R S : ℕ → ℕ → Type 0) → Sound text a R → Sound text b S → Sound text (either a b) (λ i j. R i j ⊎ S i j)
  sound_either a b R S sa sb In =
      let ca = sa In in
      let cb = sb In in
      let Inside : ℕ → ℕ → Type 0 = λ s i. ((s ≡ 0) × In i) ⊎ (((r : ℕ) × (s ≡ 1 + r) × ca.Inner r i) ⊎ (((s ≡ 1 + length a) × Out R In i) ⊎ ((r : ℕ) × (s ≡ (length a + 2) + r) × cb.Inner r i))) in
      let All : ℕ → ℕ → Type 0 = λ t j. Within Inside (either a b) (λ x y. R x y ⊎ S x y) In t j in
      let skip : List Item = Skip (length b + 1) ∷ [] in
      let half : length (a ++ skip) ≡ length a + 1 = length-append a skip in
      let front : length (optional (a ++ skip)) ≡ length a + 2 = omega (arith, half) in
      let len : length (either a b) ≡ length a + length b + 2 = omega (arith, length-append (optional (a ++ skip)) b, front) in
      let left : (r j : ℕ) → Within ca.Inner a R In r j → All (1 + r) j =
      λ r j. ⊎_elim
      (λ inner. inl (inr (inl (r, refl, inner))))
      (λ out. inl (inr (inr (inl (omega (arith, out.0), out.1))))) in
      let right : (r j : ℕ) → Within cb.Inner b S In r j → All ((length a + 2) + r) j =
      λ r j. ⊎_elim
      (λ inner. inl (inr (inr (inr (r, refl, inner)))))
      (λ out. inr (omega (arith, out.0, len), (out.1.0, out.1.1, inr out.1.2))) in
      let got_fork : slice_get (either a b) 0 ≡ Some (Fork (length (a ++ skip) + 1)) = refl in
      let got_tail : (r : ℕ) → slice_get (either a b) (1 + r) ≡ slice_get ((a ++ skip) ++ b) r =
      λ r. ap (slice_get (either a b)) (let e : 1 + r ≡ suc r = omega arith in e) in
      let got_left : (r : ℕ) → r < length a → slice_get (either a b) (1 + r) ≡ slice_get a r =
      λ r h. got_tail r ∙ get_first (a ++ skip) b r (omega (arith, half)) ∙ get_first a skip r h in
      let got_skip : slice_get (either a b) (1 + length a) ≡ Some (Skip (length b + 1)) =
      got_tail (length a) ∙ get_first (a ++ skip) b (length a) (omega (arith, half)) ∙ ap (slice_get (a ++ skip)) (let e : length a ≡ length a + 0 = omega arith in e) ∙ get_second a skip 0 in
      let got_right : (r : ℕ) → slice_get (either a b) ((length a + 2) + r) ≡ slice_get b r =
      λ r. ap (λ n. slice_get (either a b) (n + r)) (sym front) ∙ get_second (optional (a ++ skip)) b r in
      record {
        Inner = Inside;
        inside = λ s i h. ⊎_elim
            (λ z. omega (arith, z.0, len))
            (λ h1. ⊎_elim
            (λ r. omega (arith, r.1, ca.inside r.0 i r.2, len))
            (λ h2. ⊎_elim (λ out. omega (arith, out.0, len)) (λ r. omega (arith, r.1, cb.inside r.0 i r.2, len)) h2)
            h1)
            h;
        enters = λ i h. inl (inl (refl, h));
        leads = λ d s i u j h lead. ⊎_elim
            (λ z.
            let g = lead_at text (slice_get (either a b) s) (Some (Fork (length (a ++ skip) + 1))) (d + s) (d + s) i u j (ap (slice_get (either a b)) z.0 ∙ got_fork) refl lead in
            let there : In j = subst In (sym g.0) z.1 in
            ⊎_elim
            (λ next. (1 + 0, omega (arith, next, z.0), left 0 j (ca.enters j there)))
            (λ past. ((length a + 2) + 0, omega (arith, past, z.0, half), right 0 j (cb.enters j there)))
            g.1)
            (λ h1. ⊎_elim
            (λ r.
            let t = ca.leads (d + 1) r.0 i u j r.2 (lead_at text (slice_get (either a b) s) (slice_get a r.0) (d + s) ((d + 1) + r.0) i u j (ap (slice_get (either a b)) r.1 ∙ got_left r.0 (ca.inside r.0 i r.2)) (omega (arith, r.1)) lead) in
            (1 + t.0, omega (arith, t.1), left t.0 j t.2))
            (λ h2. ⊎_elim
            (λ out.
            let g = lead_at text (slice_get (either a b) s) (Some (Skip (length b + 1))) (d + s) (d + s) i u j (ap (slice_get (either a b)) out.0 ∙ got_skip) refl lead in
            let there = subst (λ p. Out R In p) (sym g.0) out.1 in
            (length a + length b + 2, omega (arith, g.1, out.0), inr (sym len, (there.0, there.1, inl there.2))))
            (λ r.
            let t = cb.leads (d + (length a + 2)) r.0 i u j r.2 (lead_at text (slice_get (either a b) s) (slice_get b r.0) (d + s) ((d + (length a + 2)) + r.0) i u j (ap (slice_get (either a b)) r.1 ∙ got_right r.0) (omega (arith, r.1)) lead) in
            ((length a + 2) + t.0, omega (arith, t.1), right t.0 j t.2))
            h2)
            h1)
            h;
      }

  pub sound_items : (e : Expression) → Sound text (items_of e) (Spans e text)
  unfolding items_of
  sound_items (OneOf bytes) = sound_one (Takes bytes) (Spans (OneOf bytes) text) (λ s i t j g. (g.0, (g.2, g.1, g.3)))
  sound_items Start = sound_one AtStart (Spans Start text) (λ s i t j g. (g.0, (g.2, g.1 ∙ g.2)))
  sound_items End = sound_one AtEnd (Spans End text) (λ s i t j g. (g.0, (g.2, g.1 ∙ g.2)))
  sound_items Empty = sound_empty
  sound_items (Then a b) = sound_then (items_of a) (items_of b) (Spans a text) (Spans b text) (sound_items a) (sound_items b)
  sound_items (Or a b) = sound_either (items_of a) (items_of b) (Spans a text) (Spans b text) (sound_items a) (sound_items b)
  sound_items (Repeat a least None) = sound_at_least (items_of a) (Spans a text) (sound_items a) least
  sound_items (Repeat a least (Some more)) = sound_between (items_of a) (Spans a text) (sound_items a) least more
