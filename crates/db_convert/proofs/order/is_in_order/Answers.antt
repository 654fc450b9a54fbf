use Rattle.std.proofs.Common.{sym, ◌∙◌, is_lt}
use Rattle.db_convert.specs.Blocks.{entry_cmp, entry_of}
use Rattle.db_convert.proofs.Sorting.{rises_more}
use Rattle.db_convert.proofs.order.is_in_order.Goals as goal

pub places-preserved : goal.places-preserved
places-preserved c =
    rises_more c.args.paths.now c.args.places.now c.places.at c.places.auto.at c.places.invariant
    ((λ i. is_lt (entry_cmp (entry_of (sym c.get-before.ensures i)) (entry_of (sym c.get-here.ensures i)))) ∙ sym c.is_below.ensures ∙ c.if-not-is_below.false)
