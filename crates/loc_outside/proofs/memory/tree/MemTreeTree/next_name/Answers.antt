use Rattle.std.proofs.Common.{◌≡◌, ◌+◌, ◌∷◌, arith, sym, ◌∙◌, ap}
use Rattle.std.proofs.lemmas.Bool.Decides.{nat_tests}
use Rattle.std.proofs.lemmas.Grind.{common_steps}
use Rattle.loc_outside.specs.DirMap.{dir_of, rest_of}
use Rattle.loc_outside.proofs.DirLemmas.{next_of}
use Rattle.loc_outside.proofs.memory.tree.MemTreeTree.next_name.Goals as goal

pub returns-clause-first : goal.returns-clause-first
returns-clause-first c =
    let name = c.at-kind.result.0.now in
    let kind = c.at-kind.result.1 in
    let dirs = c.self.inside.dirs in
    let given = c.self.inside.at in
    let is_set : c.set.new.self ≡ c.at-kind.result.0.now = grind (arith, common_steps, nat_tests, c.set.ensures.variant, c.at-kind.ensures.fits) in
    ap (λ s. s.rest) (sym c.self.view_is)
    ∙ ap (λ o. rest_of dirs o given) c.in-Some.is
    ∙ next_of dirs c.in-Some.place given (dir_of c.in-Some-at.dir.now) name kind c.in-Some-at.ensures c.at-kind.ensures.entry
    ∙ (λ i. (sym is_set i, kind) ∷ rest_of dirs (sym c.in-Some.is i) (given + 1))
