use Rattle.std.proofs.Common.{◌≤◌, ◌<◌, ◌+◌, length, drop, refl, arith}
use Rattle.std.proofs.lemmas.Bool.{false≢true}
use Rattle.glob_match.specs.Language.{Matches}
use Rattle.glob_match.proofs.Walk.{Walks-found, Walks-star, Walks-taken, Walks-restart, Walks-from, Walks-fails, Walks-ended, fails_past, fails_untaken, matches_last_star}
use Rattle.glob_match.proofs.Cost.{spent-star, spent-restart_more, spent-restart_step_more, spent-on, spent}
use Rattle.glob_match.proofs.matching.walk.Goals as goal
use Rattle.glob_match.proofs.matching.walk.Goals.{then-item-len+else-at-text, else-item-len+else-is_star+else-at-text-2+else-takes}

pub returns-then-item-len-2-clause-value : goal.returns-then-item-len-2-clause-value
returns-then-item-len-2-clause-value g c = (
  λ _. Walks-found c.args.items.now c.args.text.now c.walk.invariant.walks (matches_last_star c.args.items.now c.args.text.now c.walk.item c.walk.at (c.if-is_star.ensures.0 refl) (omega arith)),
  λ _. refl,
)

pub walk-preserved-then-is_star : goal.walk-preserved-then-is_star
walk-preserved-then-is_star g c = record {
  inside = omega arith;
  walks = Walks-star c.args.items.now c.args.text.now c.walk.invariant.walks (c.if-is_star.ensures.0 refl) (omega arith);
  rising = c.walk.invariant.rising;
  cost = omega (arith, spent-star c.args.steps.now (length c.args.items.now) c.walk.item c.walk.at c.walk.from (omega (arith, c.walk.invariant.walks.level, c.walk.invariant.walks.behind)));
}

pub returns-then-at-text-2-clause-value : goal.returns-then-at-text-2-clause-value
returns-then-at-text-2-clause-value g c = (
  λ e. absurd (false≢true e),
  λ h. absurd (Walks-ended c.args.items.now c.args.text.now c.walk.invariant.walks (omega arith) (λ e. false≢true (c.if-is_star.ensures.1 e)) (omega arith) h),
)

pub walk-preserved-then-takes : goal.walk-preserved-then-takes
walk-preserved-then-takes g c = record {
  inside = c.walk.invariant.inside;
  walks = Walks-taken c.args.items.now c.args.text.now c.walk.invariant.walks (omega arith) (λ e. false≢true (c.if-is_star.ensures.1 e)) (omega arith) c.if-takes.ensures.value;
  rising = omega arith;
  cost = omega arith;
}

pub returns-then-restart-eq0-clause-value : goal.returns-then-restart-eq0-clause-value
returns-then-restart-eq0-clause-value g c =
    let fails : Matches (drop c.walk.item c.args.items.now) (drop c.walk.at c.args.text.now) → ⊥ =
    elim c.if-item-len.branch [
      | then-item-len+else-at-text w ↦ fails_past c.args.items.now c.args.text.now c.walk.item c.walk.at (omega arith) (omega arith)
      | else-item-len+else-is_star+else-at-text-2+else-takes w ↦ fails_untaken c.args.items.now c.args.text.now c.walk.item c.walk.at (omega arith) (λ e. false≢true (w.if-is_star.ensures.1 e)) w.if-takes.ensures.value
    ] in
    (λ e. absurd (false≢true e), λ h. absurd (Walks-fails c.args.items.now c.args.text.now c.walk.invariant.walks (omega arith) fails h))

pub walk-preserved : goal.walk-preserved
walk-preserved g c =
    let w0 = c.walk.invariant.walks in
    let facts : (Matches (drop c.walk.item c.args.items.now) (drop c.walk.at c.args.text.now) → ⊥) × (c.walk.at < length c.args.text.now) × (c.walk.steps ≤ c.if-item-len.steps) × (c.if-item-len.steps + 1 ≤ spent c.args.steps.now (length c.args.items.now) c.walk.restart (c.walk.from + 1)) =
    elim c.if-item-len.branch [
      | then-item-len+else-at-text w ↦ (
        fails_past c.args.items.now c.args.text.now c.walk.item c.walk.at (omega arith) (omega arith),
        omega arith,
        omega arith,
        omega (arith, spent-restart_more c.args.steps.now (length c.args.items.now) c.walk.item c.walk.restart c.walk.from w0.item_in (omega arith)),
      )
      | else-item-len+else-is_star+else-at-text-2+else-takes w ↦ (
        fails_untaken c.args.items.now c.args.text.now c.walk.item c.walk.at (omega arith) (λ e. false≢true (w.if-is_star.ensures.1 e)) w.if-takes.ensures.value,
        omega arith,
        omega arith,
        omega (arith, spent-restart_step_more c.args.steps.now (length c.args.items.now) c.walk.item c.walk.restart c.walk.from (omega arith) (omega arith)),
      )
    ] in
    let next = Walks-restart c.args.items.now c.args.text.now w0 (omega arith) facts.1 facts.0 in
    record {
      walks = Walks-from c.args.items.now c.args.text.now c.next_start-from.result next (omega arith) c.next_start-from.ensures.forth c.next_start-from.ensures.within c.next_start-from.ensures.passed;
      inside = c.walk.invariant.inside;
      rising = omega (arith, facts.2, c.walk.invariant.rising, c.next_start-from.ensures.rising);
      cost = spent-on c.args.steps.now (length c.args.items.now) c.walk.restart (c.walk.from + 1) c.next_start-from.result _ _ c.next_start-from.ensures.forth facts.3 c.next_start-from.ensures.bound;
    }
