use Rattle.std.proofs.Common.{sym, ◌∙◌, ap}
use Rattle.std.specs.Ordering.{ordering_then}
use Rattle.std.proofs.lemmas.Cmp.{tied_itself}
use Rattle.std.proofs.lemmas.Slice.Eq.{bytes_eq-Decides}
use Rattle.path_order.specs.Order.{path_cmp}
use Rattle.path_order.specs.Path.{parent_of, base_of}
use Rattle.path_order.proofs.OrderLemmas.{path_total}
use Rattle.db_convert.specs.Blocks.{byte_cmp}
use Rattle.db_convert.proofs.entry.compare_entries.Goals as goal

pub returns-then-eq : goal.returns-then-eq
returns-then-eq c =
    let dirs = (bytes_eq-Decides c.split.result.0.now c.split-2.result.0.now).0 (sym c.eq.ensures ∙ c.if-eq.true) in
    let tied = ap (path_cmp (parent_of c.args.a.now)) (sym c.split-2.ensures.dir ∙ sym dirs ∙ c.split.ensures.dir) ∙ tied_itself path_total (parent_of c.args.a.now) in
    c.compare_names.ensures ∙ (λ i. byte_cmp (c.split.ensures.name i) (c.split-2.ensures.name i))
    ∙ sym (ap (λ o. ordering_then o (byte_cmp (base_of c.args.a.now) (base_of c.args.b.now))) tied)
