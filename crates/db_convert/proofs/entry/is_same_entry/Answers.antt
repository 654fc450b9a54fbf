use Rattle.std.proofs.Common.{sym, ◌∙◌}
use Rattle.std.specs.Str.{bytes_eq}
use Rattle.db_convert.specs.Blocks.{entry_of}
use Rattle.db_convert.proofs.Comparing.{with_name, with_other_name}
use Rattle.db_convert.proofs.entry.is_same_entry.Goals as goal

pub returns-then-eq : goal.returns-then-eq
returns-then-eq c =
    with_name (entry_of c.args.a.now) (entry_of c.args.b.now) _
    (sym (c.eq.ensures ∙ (λ i. bytes_eq (c.split.ensures.name i) (c.split-2.ensures.name i))) ∙ c.if-eq.true)
    (c.eq-then-eq.ensures ∙ (λ i. bytes_eq (c.split.ensures.dir i) (c.split-2.ensures.dir i)))

pub returns-else-eq : goal.returns-else-eq
returns-else-eq c =
    with_other_name (entry_of c.args.a.now) (entry_of c.args.b.now) _ c.if-eq.false (sym (c.eq.ensures ∙ (λ i. bytes_eq (c.split.ensures.name i) (c.split-2.ensures.name i))))
