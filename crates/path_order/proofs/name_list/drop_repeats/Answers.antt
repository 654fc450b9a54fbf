use Rattle.std.proofs.Common.{rules, sym, ◌∙◌}
use Rattle.std.proofs.lemmas.Fn.{dedup_same}
use Rattle.std.specs.Str.{bytes_eq}
use Rattle.path_order.specs.Spans.{text_at}
use Rattle.path_order.proofs.name_list.drop_repeats.Goals as goal

pub returns : goal.returns
returns c =
    dedup_same _ (λ next kept. bytes_eq (text_at c.args.bytes.now next) (text_at c.args.bytes.now kept)) _
    (λ x y b f' x' y' h. let met = h.called.met.0 in (met.0 ∙ (λ i. bytes_eq (text_at c.args.bytes.now (h.shows.0 i)) (text_at c.args.bytes.now (h.shows.1 i))), search rules, sym h.leaves.0 ∙ met.1.0 ∙ h.shows.0, sym h.leaves.1 ∙ met.1.1 ∙ h.shows.1))
    _ _ c.dedup_by.ensures.filtered
