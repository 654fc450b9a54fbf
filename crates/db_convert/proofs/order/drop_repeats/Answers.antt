use Rattle.std.proofs.Common.{rules, sym, ◌∙◌}
use Rattle.std.proofs.lemmas.Fn.{dedup_same}
use Rattle.std.specs.Ordering.{eq_by_cmp}
use Rattle.db_convert.specs.Blocks.{entry_cmp}
use Rattle.db_convert.specs.Orders.{entry_at}
use Rattle.db_convert.proofs.order.drop_repeats.Goals as goal

pub returns : goal.returns
returns c =
    dedup_same _ (λ next kept. eq_by_cmp entry_cmp (entry_at c.args.paths.now next) (entry_at c.args.paths.now kept)) _
    (λ x y b f' x' y' h. let met = h.called.met.0 in (met.0 ∙ (λ i. eq_by_cmp entry_cmp (entry_at c.args.paths.now (h.shows.0 i)) (entry_at c.args.paths.now (h.shows.1 i))), search rules, sym h.leaves.0 ∙ met.1.0 ∙ h.shows.0, sym h.leaves.1 ∙ met.1.1 ∙ h.shows.1))
    _ _ c.dedup_by.ensures.filtered
