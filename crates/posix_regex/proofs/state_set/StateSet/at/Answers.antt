use Rattle.std.proofs.Common.{◌≡◌, ◌<◌, length, take, get_or, slice_index, sym, subst, rules, arith}
use Rattle.std.proofs.lemmas.Grind.{common_steps}
use Rattle.posix_regex.specs.StateSet.{Members}
use Rattle.posix_regex.proofs.Marks.{below-at}
use Rattle.posix_regex.proofs.state_set.StateSet.at.Goals as goal

pub returns-clause-below : goal.returns-clause-below
returns-clause-below c =
    let x = c.index.result.now in
    let within : c.args.place < length (take c.self.inside.count c.self.inside.order.items) = subst (λ (m : Members). c.args.place < length m.order) (sym c.self.view_is) c.requires in
    let is : x ≡ slice_index c.args.self.now.order c.args.place = first_of (search rules, grind (arith, common_steps)) in
    let at : x ≡ get_or (take c.self.inside.count c.self.inside.order.items) c.args.place 0 = subst (λ (m : Members). x ≡ slice_index m.order c.args.place) (sym c.self.view_is) is in
    subst (λ (m : Members). x < m.width) c.self.view_is (below-at c.self.inside.order.items c.self.inside.count c.args.place x c.self.inside.marks.items c.self.invariant within at)
