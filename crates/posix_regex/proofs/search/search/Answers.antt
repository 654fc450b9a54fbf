use Rattle.std.proofs.Common.{◌≡◌, ℕ, Contains, ◌+◌, ◌*◌, ◌≤◌, length, refl, sym, ap, ◌∙◌, subst, ⊎_elim, arith, mul-le-mul_left}
use Rattle.std.proofs.lemmas.Bool.{false≢true}
use Rattle.posix_regex.specs.First.{MayBegin, bytes_of}
use Rattle.posix_regex.specs.Moves.{Reached}
use Rattle.posix_regex.specs.StateSet.{Members}
use Rattle.posix_regex.proofs.Searching.{Spread, Waiting, next_reached, still_reached, waiting_next, waiting_at, waiting_done}
use Rattle.posix_regex.proofs.Starts.{end_begun}
use Rattle.posix_regex.proofs.search.search.Goals as goal

pub loop-at-preserved : goal.loop-at-preserved
loop-at-preserved g c =
    let Start = MayBegin c.args.text.now (bytes_of c.args.first.now) in
    let items = c.args.states.now in
    let text = c.args.text.now in
    let at = c.loop-at.at in
    let to = c.place_after-at.result in
    let inv = c.loop-at.invariant in
    let e = c.if-spread.ensures in
    let begun : (s : ℕ) → Contains c.begin.new.now.order s → Reached items text s at = λ s h. ⊎_elim (λ old. inv.waiting.sound s old) (λ z. (0, (z, inv.within))) (c.begin.ensures.only s h) in
    let p : Spread items text c.begin.new.now.order c.spread.new.now.order c.spread.new.next.order at = record { kept = e.kept; next_sound = λ s h. next_reached items text c.begin.new.now.order at begun c.spread.new.now.order e.sound s (e.next_sound s h); closed = e.closed refl; unfinished = e.unfinished refl } in
    let first : c.swap.new.x.width ≡ length items + 1 = ap (λ (m : Members). m.width) c.swap.ensures.x_after ∙ e.next_width ∙ inv.next_width in
    let second : c.swap.new.y.width ≡ length items + 1 = ap (λ (m : Members). m.width) c.swap.ensures.y_after ∙ e.now_width ∙ c.begin.ensures.width ∙ inv.now_width in
    let after : Waiting Start items text c.spread.new.next.order (at + 1) =
    waiting_next Start items text c.loop-at.now.order c.begin.new.now.order c.spread.new.now.order c.spread.new.next.order at inv.waiting (λ s le h. c.begin.ensures.kept s h) (λ here. c.begin.ensures.start (omega (arith, inv.now_width)) here) p in
    let more : (length items + 1) * (at + 1) ≤ (length items + 1) * to = mul-le-mul_left (length items + 1) (omega (arith, c.place_after-at.ensures.further)) in
    record {
      within = c.place_after-at.ensures.within;
      now_width = first;
      next_width = c.clear-in-loop-at.ensures.width ∙ second;
      waiting = waiting_at Start items text c.swap.new.x.order at to c.place_after-at.ensures.further c.place_after-at.ensures.empty c.place_after-at.ensures.idle
          (subst (λ (m : Members). Waiting Start items text m.order (at + 1)) (sym c.swap.ensures.x_after) after);
      empty = c.clear-in-loop-at.ensures.empty;
      rising = omega (arith, inv.rising, e.rising);
      bound = omega (arith, inv.bound, e.bound, more);
    }

pub returns-clause-value : goal.returns-clause-value
returns-clause-value g c =
    let Start = MayBegin c.args.text.now (bytes_of c.args.first.now) in
    let items = c.args.states.now in
    let text = c.args.text.now in
    let inv = c.loop-at.invariant in
    let e = c.if-spread-2.ensures in
    let started : (s : ℕ) → Contains c.begin-2.new.now.order s → Reached items text s c.loop-at.at = λ s h. ⊎_elim (λ old. inv.waiting.sound s old) (λ z. (0, (z, inv.within))) (c.begin-2.ensures.only s h) in
    let p : Spread items text c.begin-2.new.now.order c.spread-2.new.now.order c.spread-2.new.next.order c.loop-at.at = record { kept = e.kept; next_sound = λ s h. next_reached items text c.begin-2.new.now.order c.loop-at.at started c.spread-2.new.now.order e.sound s (e.next_sound s h); closed = e.closed refl; unfinished = e.unfinished refl } in (
      λ t. absurd (false≢true t),
      λ h.
          let begun = end_begun items text (bytes_of c.args.first.now) c.requires.first (λ i within. omega (arith, c.type_inv.text i)) h.0 h.1 in
          absurd (waiting_done Start items text c.loop-at.now.order c.begin-2.new.now.order c.spread-2.new.now.order c.spread-2.new.next.order c.loop-at.at inv.waiting (λ s le h. c.begin-2.ensures.kept s h) (λ here. c.begin-2.ensures.start (omega (arith, inv.now_width)) here) p (omega (arith, c.loop-at-test.false)) h.0 begun),
    )

pub returns-then-spread-clause-value : goal.returns-then-spread-clause-value
returns-then-spread-clause-value g c = (
  λ t. (
    c.loop-at.at,
    still_reached c.args.states.now c.args.text.now c.begin.new.now.order c.loop-at.at
        (λ s h. ⊎_elim (λ old. c.loop-at.invariant.waiting.sound s old) (λ z. (0, (z, c.loop-at.invariant.within))) (c.begin.ensures.only s h))
        (length c.args.states.now)
        (c.if-spread.ensures.found refl),
  ),
  λ h. refl,
)

pub returns-then-spread-2-clause-value : goal.returns-then-spread-2-clause-value
returns-then-spread-2-clause-value g c = (
  λ t. (
    c.loop-at.at,
    still_reached c.args.states.now c.args.text.now c.begin-2.new.now.order c.loop-at.at
        (λ s h. ⊎_elim (λ old. c.loop-at.invariant.waiting.sound s old) (λ z. (0, (z, c.loop-at.invariant.within))) (c.begin-2.ensures.only s h))
        (length c.args.states.now)
        (c.if-spread-2.ensures.found refl),
  ),
  λ h. refl,
)
