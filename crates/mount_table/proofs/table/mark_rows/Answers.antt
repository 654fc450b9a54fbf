use Rattle.std.proofs.Common.{◌∙◌, ap, arith}
use Rattle.std.proofs.lemmas.List.{length-set}
use Rattle.mount_table.specs.Index.{mark_place}
use Rattle.mount_table.proofs.IndexLemmas.{Marks-more}
use Rattle.mount_table.proofs.table.mark_rows.Goals as goal

pub loop-row-preserved : goal.loop-row-preserved
loop-row-preserved c = (
  length-set c.loop-row.marks.items c.mark_place.result _ ∙ c.loop-row.invariant.0,
  Marks-more c.args.rows.now c.loop-row.row-index c.row-item.result c.loop-row.marks.items c.mark_place.result c.loop-row-test.true c.row-item.is (c.mark_place.ensures.value ∙ ap mark_place c.point.ensures) (omega (arith, c.loop-row.invariant.0, c.mark_place.ensures.within)) c.loop-row.invariant.1,
)
