use Rattle.std.proofs.Common.{◌≡◌, ◌∙◌, ◌+◌, ◌<◌, drop, sym, subst, arith}
use Rattle.std.proofs.lemmas.List.{get_or-drop}
use Rattle.glob_match.specs.Needle.{plain_wanted}
use Rattle.glob_match.proofs.Needles.{InGlob-occurs}
use Rattle.glob_match.proofs.glob.Glob.matches_from.Goals as goal

pub returns-in-Some-clause-value : goal.returns-in-Some-clause-value
returns-in-Some-clause-value g c =
    let needle = c.in-Some.needle in
    let is : plain_wanted needle.0 needle.1 ≡ c.args.self.now = (rw c.in-Some.is at c.self.invariant.1) ∙ c.self.view_is in
    InGlob-occurs c.args.self.now needle.0 needle.1 (drop c.args.from c.args.text.now) c.occurs_from.result is
    (λ k. subst (λ x. x < 256) (sym (get_or-drop c.args.from c.args.text.now k 0)) (omega (arith, c.type_inv.text (c.args.from + k)))) c.occurs_from.ensures
