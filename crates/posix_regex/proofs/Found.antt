-- Items come to their end where the expression spans some part of the text.
use Rattle.std.proofs.Common.{◌≡◌, ℕ, zero, suc, ◌+◌, ◌<◌, ◌≤◌, List, length, slice_get, None, refl, sym, subst, ⊎_elim, arith}
use Rattle.std.proofs.lemmas.Option.{slice_get_past}
use Rattle.posix_regex.specs.Expression.{Expression, OneOf, Start, End, Empty, Then, Or, Repeat, Times, Spans, Found}
use Rattle.posix_regex.specs.Program.{Item, items_of}
use Rattle.posix_regex.specs.Moves.{Leads, Comes, Reached, ReachesEnd}
use Rattle.posix_regex.proofs.Sound.{Within, Covers, Out, sound_items, lead_at}
use Rattle.posix_regex.proofs.Complete.{complete_items}

-- an expression spans forward, and not past the end
abbrev pub Forward : List ℕ → (ℕ → ℕ → Type 0) → Type 0
Forward text R = (i j : ℕ) → i ≤ length text → R i j → (i ≤ j) × (j ≤ length text)

pub times_forward : (text : List ℕ) (R : ℕ → ℕ → Type 0) → Forward text R → (n : ℕ) → Forward text (Times R n)
times_forward text R f zero i j within e = (omega (arith, e), omega (arith, e))
times_forward text R f (suc n) i j within h =
    let a = f i h.0 within h.1 in
    let b = times_forward text R f n h.0 j a.1 h.2 in
    (omega (arith, a.0, b.0), b.1)

pub spans_forward : (text : List ℕ) (e : Expression) → Forward text (Spans e text)
spans_forward text (OneOf bytes) i j within h = (omega (arith, h.1), omega (arith, h.0, h.1))
spans_forward text Start i j within h = (omega (arith, h.0), omega (arith, h.1))
spans_forward text End i j within h = (omega (arith, h.0, h.1), omega (arith, h.1))
spans_forward text Empty i j within e = (omega (arith, e), omega (arith, e))
spans_forward text (Then a b) i j within h =
    let f = spans_forward text a i h.0 within h.1 in
    let g = spans_forward text b h.0 j f.1 h.2 in
    (omega (arith, f.0, g.0), g.1)
spans_forward text (Or a b) i j within h = ⊎_elim (spans_forward text a i j within) (spans_forward text b i j within) h
spans_forward text (Repeat a least more) i j within h = times_forward text (Spans a text) (spans_forward text a) h.0 i j within h.2

module _ (text : List ℕ) (items : List Item) (R : ℕ → ℕ → Type 0) (c : Covers text items R (λ i. i ≤ length text)) where
  -- past the end nothing leads on
  moved : (t k s i : ℕ) → Within c.Inner items R (λ x. x ≤ length text) t k → Leads text (slice_get items t) t k s i → Within c.Inner items R (λ x. x ≤ length text) s i
  moved t k s i at lead = ⊎_elim
      (λ inner.
      let m = c.leads 0 t k s i inner (lead_at text (slice_get items t) (slice_get items t) t (0 + t) k s i refl (omega arith) lead) in
      subst (λ x. Within c.Inner items R (λ y. y ≤ length text) x i) (let e : m.0 ≡ s = omega (arith, m.1) in e) m.2)
      (λ out. absurd (lead_at text (slice_get items t) None t t k s i (slice_get_past items t (omega (arith, out.0))) refl lead))
      at

  come_within : (n s i : ℕ) → Comes n items text s i → Within c.Inner items R (λ x. x ≤ length text) s i
  come_within zero s i h = subst (λ x. Within c.Inner items R (λ y. y ≤ length text) x i) (sym h.0) (c.enters i h.1)
  come_within (suc n) s i h = moved h.0 h.1 s i (come_within n h.0 h.1 h.2) h.3

  end_out : (j : ℕ) → Reached items text (length items) j → Out R (λ x. x ≤ length text) j
  end_out j h = ⊎_elim
      (λ inner. let f = c.inside (length items) j inner in absurd (omega (arith, f)))
      (λ out. out.1)
      (come_within h.0 (length items) j h.1)

pub end_found : (e : Expression) (text : List ℕ) → ReachesEnd (items_of e) text → Found e text
end_found e text h =
    let out = end_out text (items_of e) (Spans e text) (sound_items text e (λ i. i ≤ length text)) h.0 h.1 in
    let f = spans_forward text e out.0 h.0 out.1 out.2 in
    (out.0, h.0, f.0, f.1, out.2)

pub found_end : (e : Expression) (text : List ℕ) → Found e text → ReachesEnd (items_of e) text
found_end e text h =
    let kept = λ (s i u j : ℕ) (within : s < length (items_of e)) (p : Reached (items_of e) text (0 + s) i) (lead : Leads text (slice_get (items_of e) s) (0 + s) i u j).
    let at : 0 + s ≡ s = omega arith in
    let q : Reached (items_of e) text s i = subst (λ x. Reached (items_of e) text x i) at p in
    let step : Leads text (slice_get (items_of e) s) s i u j = lead_at text (slice_get (items_of e) s) (slice_get (items_of e) s) (0 + s) s i u j refl at lead in
    let more : Reached (items_of e) text u j = (suc q.0, (s, i, q.1, step)) in
    more in
    let r = complete_items text e (λ s i. Reached (items_of e) text s i) 0 kept h.0 h.1 (0, (refl, omega (arith, h.2, h.3))) h.4 in
    (h.1, subst (λ x. Reached (items_of e) text x h.1) (let f : 0 + length (items_of e) ≡ length (items_of e) = omega arith in f) r)
