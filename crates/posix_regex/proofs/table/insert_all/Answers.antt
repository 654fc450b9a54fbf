use Rattle.std.proofs.Common.{◌≡◌, ◌<◌, ◌≤◌, Contains, IsTrue, ◌∙◌, sym, subst, inr, ⊎_elim, arith}
use Rattle.std.proofs.lemmas.Bool.{cases_lt}
use Rattle.posix_regex.specs.Table.{has_state}
use Rattle.posix_regex.proofs.table.insert_all.Goals as goal

pub loop-state-preserved : goal.loop-state-preserved
loop-state-preserved c =
    let inv = c.loop-state.invariant in
    let e = c.insert_one.ensures in
    let state = c.loop-state.state in
    record {
      width = e.width ∙ inv.width;
      kept = λ s h. e.kept s (inv.kept s h);
      has = λ s lt t. ⊎_elim
          (λ (before : s < state). e.kept s (inv.has s before t))
          (λ (last : state ≤ s).
          let same : s ≡ state = omega (arith, last, lt) in
          subst (λ x. Contains c.insert_one.new.now.order x) (sym same)
          (e.has (omega (arith, inv.width, c.requires.width, c.loop-state-test.true)) (subst (λ x. IsTrue (has_state c.args.set x)) same t)))
          (cases_lt s state);
      only = λ s h. ⊎_elim
          (λ old. inv.only s old)
          (λ a. inr (omega (arith, a.0, c.loop-state-test.true), subst (λ x. IsTrue (has_state c.args.set x)) (sym a.0) a.1))
          (e.only s h);
    }
