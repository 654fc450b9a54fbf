use Rattle.std.proofs.Common.{◌≡◌, ℕ, ◌+◌, ◌<◌, ◌≤◌, length, slice_get, Contains, get_or, refl, sym, ap, ◌∙◌, subst, inl, inr, suc, ⊎_elim, arith}
use Rattle.std.proofs.lemmas.Bool.{cases_lt}
use Rattle.posix_regex.specs.Moves.{Leads, Still}
use Rattle.posix_regex.proofs.Inserted.{contains_at, place_of}
use Rattle.posix_regex.proofs.search.spread.Goals as goal

pub loop-k-init : goal.loop-k-init
loop-k-init g c = record {
  now_width = refl;
  next_width = refl;
  so_far = omega arith;
  kept = λ s h. h;
  sound = λ s h. (0, h);
  next_sound = λ s h. absurd (omega (arith, h.1, ap length c.requires.empty));
  closed = λ m u j lt lead le. absurd (omega arith);
  unfinished = λ m lt e. absurd (omega arith);
  rising = omega arith;
  bound = omega arith;
}

pub loop-k-preserved : goal.loop-k-preserved
loop-k-preserved g c =
    let inv = c.loop-k.invariant in
    let old = c.loop-k.now.order in
    let new = c.insert.new.now.order in
    let s0 = c.at-state.result in
    let items = c.args.states.now in
    let text = c.args.text.now in
    let within : c.loop-k.k < length old = omega (arith, c.loop-k-test.true, c.len.ensures.value) in
    let here : s0 ≡ get_or old c.loop-k.k 0 = c.at-state.ensures.value in
    let there : Contains old s0 = contains_at old c.loop-k.k s0 within here in
    let reached : Still items text c.args.now.now.order c.args.at s0 = inv.sound s0 there in
    let wide : c.loop-k.now.width ≡ length items + 1 = omega (arith, inv.now_width, c.requires.now_width) in
    let stays : (m : ℕ) → m < length old → get_or new m 0 ≡ get_or old m 0 = c.insert.ensures.same in
    record {
      now_width = c.insert.ensures.now_width ∙ inv.now_width;
      next_width = c.insert.ensures.next_width ∙ inv.next_width;
      so_far = omega (arith, c.insert.ensures.longer, within);
      kept = λ s h. c.insert.ensures.now_kept s (inv.kept s h);
      sound = λ s h. ⊎_elim (λ h0. inv.sound s h0) (λ to. (suc reached.0, (s0, reached.1, (c.lead-lead.ensures.value s c.args.at (omega (arith, to.0, wide))).1 (to.1 c.args.at)))) (c.insert.ensures.now_only s h);
      next_sound = λ s h. ⊎_elim (λ h0. let q = inv.next_sound s h0 in (q.0, c.insert.ensures.now_kept q.0 q.1, q.2)) (λ to. (s0, c.insert.ensures.now_kept s0 there, (c.lead-lead.ensures.value s (c.args.at + 1) (omega (arith, to.0, wide))).1 (to.1 c.args.at))) (c.insert.ensures.next_only s h);
      closed = λ m u j lt lead le. ⊎_elim
          (λ (before : m < c.loop-k.k).
          ⊎_elim
          (λ a. inl (a.0, c.insert.ensures.now_kept u a.1))
          (λ a. inr (a.0, c.insert.ensures.next_kept u a.1))
          (inv.closed m u j before (subst (λ x. Leads text (slice_get items x) x c.args.at u j) (stays m (omega (arith, before, within))) lead) le))
          (λ (last : c.loop-k.k ≤ m).
          let same : m ≡ c.loop-k.k = omega (arith, last, lt) in
          let e : get_or new m 0 ≡ s0 = ap (λ x. get_or new x 0) same ∙ stays c.loop-k.k within ∙ sym here in
          c.insert.ensures.has c.args.at u j ((c.lead-lead.ensures.value u j le).0 (subst (λ x. Leads text (slice_get items x) x c.args.at u j) e lead)) (omega (arith, le, wide)))
          (cases_lt m c.loop-k.k);
      unfinished = λ m lt e. ⊎_elim
          (λ (before : m < c.loop-k.k). inv.unfinished m before (sym (stays m (omega (arith, before, within))) ∙ e))
          (λ (last : c.loop-k.k ≤ m).
          let same : m ≡ c.loop-k.k = omega (arith, last, lt) in
          let f : get_or new m 0 ≡ s0 = ap (λ x. get_or new x 0) same ∙ stays c.loop-k.k within ∙ sym here in
          c.if-state-len.false (sym f ∙ e ∙ sym c.len-in-loop-k.ensures.value))
          (cases_lt m c.loop-k.k);
      rising = omega (arith, inv.rising, c.lead-lead.ensures.step);
      bound = omega (arith, inv.bound, c.lead-lead.ensures.step);
    }

pub returns-clause-closed : goal.returns-clause-closed
returns-clause-closed g c = λ no s u j has lead le.
    let p = place_of c.loop-k.now.order s has in
    c.loop-k.invariant.closed p.0 u j (omega (arith, p.1, c.loop-k-test.false, c.len.ensures.value)) (subst (λ x. Leads c.args.text.now (slice_get c.args.states.now x) x c.args.at u j) (sym p.2) lead) le

pub returns-clause-unfinished : goal.returns-clause-unfinished
returns-clause-unfinished g c = λ no has.
    let p = place_of c.loop-k.now.order (length c.args.states.now) has in
    c.loop-k.invariant.unfinished p.0 (omega (arith, p.1, c.loop-k-test.false, c.len.ensures.value)) p.2
