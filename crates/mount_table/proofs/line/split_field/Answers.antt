use Rattle.std.proofs.Common.{ℕ, ◌-◌, ◌∙◌, Option, unwrap_or, take, drop, length, sym, ap}
use Rattle.std.proofs.lemmas.List.{take_rest}
use Rattle.mount_table.proofs.Positions.{position_none}
use Rattle.mount_table.proofs.FieldLemmas.{is_part, fields-none, fields-cut}
use Rattle.mount_table.proofs.line.split_field.Goals as goal

pub returns-in_default-clause-value : goal.returns-in_default-clause-value
returns-in_default-clause-value c = fields-none _ (position_none is_part _ (sym c.field_place.ensures ∙ c.in_default.is))

pub returns-clause-value : goal.returns-clause-value
returns-clause-value c =
    let line = c.args.line.now in
    let start = c.in-Some.start in
    let rest = take (length line - start) (drop start line) in
    fields-cut line start c.unwrap_or-end.result rest _ _ (sym c.field_place.ensures ∙ c.in-Some.is) (take_rest line start) (c.unwrap_or-end.ensures ∙ ap (λ (o : Option ℕ). unwrap_or o (length rest)) c.blank_place.ensures) c.split_at.ensures.front c.split_at.ensures.back
