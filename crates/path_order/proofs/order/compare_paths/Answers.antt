use Rattle.std.proofs.Common.{◌≡◌, arith, sym, ◌∙◌}
use Rattle.path_order.specs.Order.{path_cmp}
use Rattle.path_order.proofs.OrderLemmas.{at_end, path_same, path_cmp_refl}
use Rattle.path_order.proofs.order.compare_paths.Goals as goal

pub returns-clause-order : goal.returns-clause-order
returns-clause-order c = c.cmp-2.ensures ∙ sym (c.loop-i.invariant ∙ at_end c.args.a.now c.args.b.now _ (omega arith))

pub returns-clause-equal : goal.returns-clause-equal
returns-clause-equal c =
    let order : c.cmp-2.result ≡ path_cmp c.args.a.now c.args.b.now = c.cmp-2.ensures ∙ sym (c.loop-i.invariant ∙ at_end c.args.a.now c.args.b.now _ (omega arith)) in
    (λ e. path_same _ _ (sym order ∙ e), λ e. order ∙ path_cmp_refl _ _ e)
