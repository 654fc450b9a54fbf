use Rattle.std.proofs.Common.{◌≡◌, ◌<◌, length, get_or, take, false, sym, subst, Contains, refl, arith, rules}
use Rattle.std.proofs.lemmas.List.Elements.{Contains-append_right}
use Rattle.posix_regex.proofs.Marks.{room, took, are_marked-more}
use Rattle.posix_regex.proofs.state_set.StateSet.insert.Goals as goal

pub index_mut-requires-2 : goal.index_mut-requires-2
index_mut-requires-2 c =
    let within : c.args.state < length c.self.inside.marks.items = search rules in
    let free : get_or c.self.inside.marks.items c.args.state false ≡ false = search rules in
    let r = room c.self.inside.order.items c.self.inside.count c.args.state c.self.inside.marks.items c.self.invariant within free in
    grind (arith, r)

pub overflow_add-self : goal.overflow_add-self
overflow_add-self c =
    let within : c.args.state < length c.self.inside.marks.items = search rules in
    let free : get_or c.self.inside.marks.items c.args.state false ≡ false = search rules in
    let r = room c.self.inside.order.items c.self.inside.count c.args.state c.self.inside.marks.items c.self.invariant within free in
    grind (arith, r)

pub invariant_of-self : goal.invariant_of-self
invariant_of-self c =
    let within : c.args.state < length c.self.inside.marks.items = search rules in
    let free : get_or c.self.inside.marks.items c.args.state false ≡ false = search rules in
    are_marked-more c.self.inside.order.items c.self.inside.count c.args.state c.self.inside.marks.items c.self.invariant within free

pub returns-clause-has : goal.returns-clause-has
returns-clause-has c = λ below.
    let within : c.args.state < length c.self.inside.marks.items = search rules in
    let free : get_or c.self.inside.marks.items c.args.state false ≡ false = search rules in
    subst (λ l. Contains l c.args.state) (sym (took c.self.inside.order.items c.self.inside.count c.args.state c.self.inside.marks.items c.self.invariant within free))
    (Contains-append_right (take c.self.inside.count c.self.inside.order.items) _ c.args.state (0, omega arith, refl))
