use Rattle.std.proofs.Common.{◌∙◌, sym}
use Rattle.posix_regex.proofs.Marks.{are_marked-cleared, shown-count}
use Rattle.posix_regex.proofs.state_set.StateSet.clear.Goals as goal

pub slice_bounds-unmark-end : goal.slice_bounds-unmark-end
slice_bounds-unmark-end c =
    rw c.deref.ensures.value (sym (shown-count c.self.inside.order.items c.self.inside.count c.self.inside.marks.items c.self.invariant))

pub unmark-requires-clause-below : goal.unmark-requires-clause-below
unmark-requires-clause-below c = rw c.deref.ensures.value (λ s has. (c.self.invariant.below s has).0)

pub unmark-requires-clause-all : goal.unmark-requires-clause-all
unmark-requires-clause-all c = rw c.deref.ensures.value c.self.invariant.listed

pub invariant_of-self : goal.invariant_of-self
invariant_of-self c =
    are_marked-cleared c.self.inside.order.items c.unmark.new.marks.items c.unmark.ensures.none (c.self.invariant.same_length ∙ sym c.unmark.ensures.len)
