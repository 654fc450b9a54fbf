use Rattle.std.proofs.Common.{◌≡◌, ◌∙◌, arith}
use Rattle.glob_match.specs.Needle.{plain_wanted}
use Rattle.glob_match.proofs.Needles.{InGlob-occurs}
use Rattle.glob_match.proofs.Units.{InGlob-found}
use Rattle.glob_match.proofs.glob.Glob.matches.Goals as goal

pub returns-in-Some-clause-value : goal.returns-in-Some-clause-value
returns-in-Some-clause-value g c =
    InGlob-found c.self.inside.finder c.self.inside.items c.args.self.now c.in-Some.finder c.args.text.now c.find.result c.is_some.result c.self.view_is c.in-Some.is c.find.ensures c.is_some.ensures

pub returns-in-Some-needle-clause-value : goal.returns-in-Some-needle-clause-value
returns-in-Some-needle-clause-value g c =
    let needle = c.in-Some-needle.needle in
    let is : plain_wanted needle.0 needle.1 ≡ c.args.self.now = (rw c.in-Some-needle.is at c.self.invariant.1) ∙ c.self.view_is in
    InGlob-occurs c.args.self.now needle.0 needle.1 c.args.text.now c.occurs_in.result is (λ k. omega (arith, c.type_inv.text k)) c.occurs_in.ensures
