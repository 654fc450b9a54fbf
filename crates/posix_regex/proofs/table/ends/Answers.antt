use Rattle.std.proofs.Common.{[], ◌∷◌, refl, sym, ◌∙◌, arith}
use Rattle.std.proofs.lemmas.Bool.{false≢true}
use Rattle.posix_regex.proofs.Tables.{ends_alike}
use Rattle.posix_regex.proofs.table.ends.Goals as goal

pub returns-then-first-clause-value : goal.returns-then-first-clause-value
returns-then-first-clause-value g c =
    ends_alike c.args.states.now c.args.first [] c.args.set c.step.result c.is_none.result (λ e. refl, λ e. c.if-first.true) c.step.ensures.value c.is_none.ensures

pub returns-clause-value : goal.returns-clause-value
returns-clause-value g c =
    ends_alike c.args.states.now c.args.first (0 ∷ []) c.args.set c.step-2.result c.is_none-2.result
    (λ e. absurd (false≢true (sym c.if-first.false ∙ e)), λ e. absurd (omega (arith, e))) c.step-2.ensures.value c.is_none-2.ensures
