use Rattle.std.proofs.Common.{ℕ, ◌+◌, List, Ok, Result, length, drop, ◌∙◌, ap, arith, append-nil, length-drop}
use Rattle.std.proofs.lemmas.List.{drop_all, drop-drop, take_rest}
use Rattle.std.specs.List.{before_first}
use Rattle.mount_table.specs.declared.fault.MountCause.{MountCause}
use Rattle.mount_table.specs.Line.{is_newline}
use Rattle.mount_table.specs.Part.{with_rows, rows_of_line}
use Rattle.mount_table.specs.Row.{MountRow}
use Rattle.mount_table.proofs.TableLemmas.{mounts_from, after_line, mounts_from-first, mounts_from-nil, rows_pushed}
use Rattle.mount_table.proofs.read.read_rows.Goals as goal

pub returns-in-Err-clause-refused : goal.returns-in-Err-clause-refused
returns-in-Err-clause-refused c = λ other.
    let text = c.args.text.now in
    let left = drop c.loop-at.at text in
    let line = c.first_line-line.result.now in
    let rows = c.loop-at.rows.items in
    let number = c.loop-at.count + 1 in
    c.loop-at.invariant.2
    ∙ ap (with_rows rows) (mounts_from-first number left line (c.first_line-line.ensures.value ∙ ap (before_first is_newline) (take_rest text c.loop-at.at)))
    ∙ ap (λ (r : Result (List MountRow) MountCause). with_rows rows (after_line number r (mounts_from (number + 1) (drop (length line + 1) left)))) (c.in-Err.ensures.err other)

pub loop-at-preserved : goal.loop-at-preserved
loop-at-preserved c =
    let text = c.args.text.now in
    let at = c.loop-at.at in
    let left = drop at text in
    let line = c.first_line-line.result.now in
    let rows = c.loop-at.rows.items in
    let number = c.loop-at.count + 1 in (
      omega (arith, c.loop-at.invariant.0),
      omega (arith, c.first_line-line.ensures.within, c.loop-at-test.true, ap length (take_rest text at), length-drop at text),
      c.loop-at.invariant.2
          ∙ ap (with_rows rows) (mounts_from-first number left line (c.first_line-line.ensures.value ∙ ap (before_first is_newline) (take_rest text at)))
          ∙ rows_pushed rows c.push_line.new.rows.items number (rows_of_line line) (mounts_from (number + 1) (drop (length line + 1) left)) c.in_default.ensures.ok
          ∙ ap (λ (rest : List ℕ). with_rows c.push_line.new.rows.items (mounts_from (number + 1) rest)) (drop-drop (length line + 1) at text),
    )

pub returns-clause-ok : goal.returns-clause-ok
returns-clause-ok c =
    let rows = c.loop-at.rows.items in
    let number = c.loop-at.count + 1 in
    c.loop-at.invariant.2
    ∙ ap (λ (rest : List ℕ). with_rows rows (mounts_from number rest)) (drop_all c.loop-at.at c.args.text.now c.loop-at-test.false)
    ∙ ap (with_rows rows) (mounts_from-nil number)
    ∙ ap Ok (append-nil rows)
