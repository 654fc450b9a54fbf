use Rattle.std.proofs.Common.{[], ◌∷◌, refl, sym, ◌∙◌, arith}
use Rattle.std.proofs.lemmas.Bool.{false≢true}
use Rattle.posix_regex.proofs.Tables.{follows_alike}
use Rattle.posix_regex.proofs.table.following.Goals as goal

pub returns-then-first-clause-value : goal.returns-then-first-clause-value
returns-then-first-clause-value g c =
    follows_alike c.args.states.now c.args.first c.args.byte (c.args.byte ∷ []) 0 c.args.set c.step.result (omega arith) refl (λ e. refl, λ e. c.if-first.true) c.step.ensures.value

pub returns-clause-value : goal.returns-clause-value
returns-clause-value g c =
    follows_alike c.args.states.now c.args.first c.args.byte (0 ∷ c.args.byte ∷ []) 1 c.args.set c.step-2.result (omega arith) refl
    (λ e. absurd (false≢true (sym c.if-first.false ∙ e)), λ e. absurd (omega (arith, e))) c.step-2.ensures.value
