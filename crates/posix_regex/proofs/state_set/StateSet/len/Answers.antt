use Rattle.std.proofs.Common.{length, sym, ap, ◌∙◌}
use Rattle.posix_regex.proofs.Marks.{shown-count}
use Rattle.posix_regex.proofs.state_set.StateSet.len.Goals as goal

pub returns-clause-value : goal.returns-clause-value
returns-clause-value c =
    sym (shown-count c.self.inside.order.items c.self.inside.count c.self.inside.marks.items c.self.invariant) ∙ ap (λ m. length m.order) c.self.view_is
