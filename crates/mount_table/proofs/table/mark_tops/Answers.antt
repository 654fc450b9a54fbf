use Rattle.std.proofs.Common.{◌∙◌, ap, arith, sym, length, get_or, List, ℕ}
use Rattle.std.proofs.lemmas.List.{length-set}
use Rattle.mount_table.proofs.IndexLemmas.{Tops-marked, Tops-short}
use Rattle.mount_table.proofs.table.mark_tops.Goals as goal
use Rattle.mount_table.proofs.table.mark_tops.Goals.{then-point-gt1, else-point-gt1}

pub loop-row-preserved : goal.loop-row-preserved
loop-row-preserved c = elim c.if-point-gt1.branch [
  | then-point-gt1 w ↦ rw w.tops-is (
    length-set c.loop-row.tops.items w.second_byte.result _ ∙ c.loop-row.invariant.0,
    Tops-marked c.args.rows.now c.loop-row.row-index c.row-item.result c.loop-row.tops.items w.second_byte.result c.loop-row-test.true c.row-item.is (omega (arith, c.loop-row.invariant.0, w.second_byte.ensures.within)) (sym (w.second_byte.ensures.value ∙ ap (λ (l : List ℕ). get_or l 1 0) c.point-point.ensures)) c.loop-row.invariant.1,
  )
  | else-point-gt1 w ↦ rw w.tops-is (
    c.loop-row.invariant.0,
    Tops-short c.args.rows.now c.loop-row.row-index c.row-item.result c.loop-row.tops.items c.loop-row-test.true c.row-item.is (omega (arith, w.if-point-gt1.false, ap length c.point-point.ensures)) c.loop-row.invariant.1,
  )
]
