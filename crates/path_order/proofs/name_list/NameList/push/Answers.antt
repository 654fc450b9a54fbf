use Rattle.std.proofs.Common.{[], ◌∷◌, ◌++◌, length, ◌∙◌, ap, arith, length-append, OnErr, Result, Ok, Err}
use Rattle.path_order.specs.declared.name_list.Span.{Span}
use Rattle.path_order.specs.NameList.{Listed}
use Rattle.path_order.specs.Spans.{entries_in}
use Rattle.path_order.proofs.SpanLemmas.{entries_more, entries_push}
use Rattle.path_order.proofs.name_list.NameList.push.Goals as goal

always : {X E P : Type 0} (r : Result X E) → P → OnErr r P
always (Ok x) p = tt
always (Err e) p = p

pub returns-in_err-push-clause-err : goal.returns-in_err-push-clause-err
returns-in_err-push-clause-err c =
    always c.from_residual-in_err-push.result
    ((λ i. entries_in (c.in_ok-extend_from_slice.ensures.items i) (c.in_err-push.ensures.items i)) ∙ entries_more c.self.inside.bytes.items c.args.name.now c.self.inside.spans.items c.self.invariant ∙ c.self.view_is)

pub returns-clause-ok : goal.returns-clause-ok
returns-clause-ok c =
    let bytes = c.in_ok-extend_from_slice.ensures.items in
    let span : Span = record { start = c.len-start.result; end = c.len-end.result; kind = c.args.kind } in
    (λ i. entries_in (bytes i) (c.in_ok-push.ensures.items i))
    ∙ entries_push c.self.inside.bytes.items c.args.name.now c.self.inside.spans.items span c.self.invariant (omega arith) (omega (arith, ap length bytes, length-append c.self.inside.bytes.items c.args.name.now))
    ∙ ap (λ (l : Listed). l ++ (c.args.name.now, c.args.kind) ∷ []) c.self.view_is
