use Rattle.std.proofs.Common.{sym, ◌∙◌}
use Rattle.std.proofs.lemmas.List.{take_rest}
use Rattle.mount_table.proofs.EscapeLemmas.{unescaped-first, unescaped-begins}
use Rattle.mount_table.proofs.escape.read_byte.Goals as goal

pub returns-then-text-ne92-clause-value : goal.returns-then-text-ne92-clause-value
returns-then-text-ne92-clause-value c = unescaped-first c.args.text.now c.requires c.if-text-ne92.true

pub returns-in-Some-clause-value : goal.returns-in-Some-clause-value
returns-in-Some-clause-value c =
    unescaped-begins c.args.text.now _ _ c.requires c.if-text-ne92.false (take_rest c.args.text.now 1) (sym c.in-Some.is ∙ c.read_octal.ensures.value)

pub returns-in-None-clause-value : goal.returns-in-None-clause-value
returns-in-None-clause-value c =
    unescaped-begins c.args.text.now _ _ c.requires c.if-text-ne92.false (take_rest c.args.text.now 1) (sym c.in-None.is ∙ c.read_octal.ensures.value)
