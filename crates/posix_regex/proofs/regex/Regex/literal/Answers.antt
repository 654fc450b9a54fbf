use Rattle.std.proofs.Common.{◌≡◌, ap, sym, ◌∙◌, subst}
use Rattle.posix_regex.specs.Literal.{Compiled}
use Rattle.posix_regex.specs.Moves.{ReachesEnd}
use Rattle.posix_regex.specs.Program.{items_of}
use Rattle.posix_regex.proofs.Found.{found_end}
use Rattle.posix_regex.proofs.regex.Regex.literal.Goals as goal

pub returns-in-Some-clause-needed : goal.returns-in-Some-clause-needed
returns-in-Some-clause-needed c = λ e is text found.
    let same : c.self.inside.states ≡ items_of e = ap (λ (m : Compiled). m.items) c.self.view_is ∙ is in
    let o = c.self.invariant.2 text (subst (λ items. ReachesEnd items text) (sym same) (found_end e text found)) in
    rw c.needle.ensures (rw c.in-Some.is at o)
