use Rattle.std.proofs.Common.{refl, sym, ◌∙◌, ap, Err, Some}
use Rattle.path_order.specs.Path.{begins_at_root}
use Rattle.mount_table.proofs.RowLemmas.{row_of-few, row_of-parts, at_root, not_at_root}
use Rattle.mount_table.proofs.row.read_row.Goals as goal

pub returns-in_default-clause-err : goal.returns-in_default-clause-err
returns-in_default-clause-err c = λ _. row_of-few c.args.line.now c.in_default.ensures.none

pub returns-in_default-read_kind-clause-err : goal.returns-in_default-read_kind-clause-err
returns-in_default-read_kind-clause-err c = λ _.
    row_of-parts c.args.line.now _ _ _ _ _ _ _ _ c.in-Some.ensures.some c.in_default-read_kind.ensures refl refl refl

pub returns-in_default-read_device-clause-err : goal.returns-in_default-read_device-clause-err
returns-in_default-read_device-clause-err c = λ _.
    row_of-parts c.args.line.now _ _ _ _ _ _ _ _ c.in-Some.ensures.some c.in-Some-read_kind.ensures c.in_default-read_device.ensures refl refl

pub returns-in-Err-clause-err : goal.returns-in-Err-clause-err
returns-in-Err-clause-err c = λ other.
    let bad = c.in-Err.ensures.err other in
    row_of-parts c.args.line.now _ _ _ _ _ _ _ _ c.in-Some.ensures.some c.in-Some-read_kind.ensures c.in-Some-read_device.ensures (sym bad.1) refl ∙ ap Err (sym bad.0)

pub returns-in-Err-unescape-clause-err : goal.returns-in-Err-unescape-clause-err
returns-in-Err-unescape-clause-err c = λ other.
    let bad = c.in-Err-unescape.ensures.err other in
    row_of-parts c.args.line.now _ _ _ _ _ _ _ _ c.in-Some.ensures.some c.in-Some-read_kind.ensures c.in-Some-read_device.ensures (sym c.in-Ok.ensures.ok) (sym bad.1) ∙ ap Err (sym bad.0)

pub returns-then-not-begins_at_root-clause-err : goal.returns-then-not-begins_at_root-clause-err
returns-then-not-begins_at_root-clause-err c = λ _.
    row_of-parts c.args.line.now _ _ _ _ _ _ _ _ c.in-Some.ensures.some c.in-Some-read_kind.ensures c.in-Some-read_device.ensures (sym c.in-Ok.ensures.ok) (sym c.in-Ok-unescape.ensures.ok)
    ∙ not_at_root c.in-Some-read_kind.kind.now c.in-Some-read_device.major c.in-Some-read_device.minor c.in-Ok.root.items c.in-Ok-unescape.point.items (ap begins_at_root (sym c.deref.ensures.value) ∙ sym c.begins_at_root.ensures ∙ c.if-not-begins_at_root.true)

pub returns-clause-ok : goal.returns-clause-ok
returns-clause-ok c =
    row_of-parts c.args.line.now _ _ _ _ _ _ _ _ c.in-Some.ensures.some (ap Some c.in_ok-kind.ensures.items ∙ c.in-Some-read_kind.ensures) c.in-Some-read_device.ensures (sym c.in-Ok.ensures.ok) (sym c.in-Ok-unescape.ensures.ok)
    ∙ at_root c.in_ok-kind.kind.items c.in-Some-read_device.major c.in-Some-read_device.minor c.in-Ok.root.items c.in-Ok-unescape.point.items (ap begins_at_root (sym c.deref.ensures.value) ∙ sym c.begins_at_root.ensures ∙ c.if-not-begins_at_root.false)
