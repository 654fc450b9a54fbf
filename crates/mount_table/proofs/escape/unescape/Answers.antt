use Rattle.std.proofs.Common.{◌∙◌, List, ℕ, Some, ap, append-nil}
use Rattle.std.proofs.lemmas.List.{drop_all}
use Rattle.mount_table.specs.Escape.{unescaped}
use Rattle.mount_table.proofs.EscapeLemmas.{after_bytes, unescaped-nil}
use Rattle.mount_table.proofs.escape.unescape.Goals as goal

pub returns-clause-ok : goal.returns-clause-ok
returns-clause-ok c =
    let bytes = c.loop-at.bytes.items in
    c.loop-at.invariant.1
    ∙ ap (λ (rest : List ℕ). after_bytes bytes (unescaped rest)) (drop_all c.loop-at.at c.args.text.now c.loop-at-test.false)
    ∙ ap (after_bytes bytes) unescaped-nil
    ∙ ap Some (append-nil bytes)
