use Rattle.std.proofs.Common.{◌<◌, length, take, sym, ◌∙◌, ap, arith}
use Rattle.std.proofs.lemmas.List.{length-take-le}
use Rattle.path_order.specs.Path.{is_normal}
use Rattle.mount_table.proofs.IndexLemmas.{IsIndex-odd, IsIndex-push, IsIndex-more}
use Rattle.mount_table.proofs.table.index_rows.Goals as goal
use Rattle.mount_table.proofs.table.index_rows.Goals.{then-is_normal+in_ok-point+in_ok-insert, else-is_normal}

pub loop-place-preserved : goal.loop-place-preserved
loop-place-preserved c =
    let rows = c.args.rows.now in
    let place = c.loop-place.place in
    let row = c.index-rows-place.result in
    let within : place < length rows = c.loop-place-test.true in
    elim c.if-is_normal.branch [
      | then-is_normal+in_ok-point+in_ok-insert w ↦
          IsIndex-more rows place row c.if-is_normal.index within c.index-rows-place.is
          (IsIndex-push (take place rows) row place c.loop-place.index c.if-is_normal.index w.in_ok-point.point c.loop-place.invariant (length-take-le place rows (omega arith)) (ap is_normal (sym c.point.ensures) ∙ sym c.is_normal.ensures ∙ w.if-is_normal.true) (w.in_ok-point.ensures.items ∙ w.point-then-is_normal.ensures) (rw w.index-is w.in_ok-insert.ensures.updates))
      | else-is_normal w ↦
          IsIndex-more rows place row c.if-is_normal.index within c.index-rows-place.is
          (rw w.index-is (IsIndex-odd (take place rows) row c.loop-place.index c.loop-place.invariant (ap is_normal (sym c.point.ensures) ∙ sym c.is_normal.ensures ∙ w.if-is_normal.false)))
    ]
