use Rattle.std.proofs.Common.{ℕ, List, ap, ◌∙◌}
use Rattle.std.specs.Prelude.{nat_eq}
use Rattle.std.specs.List.{starts_with}
use Rattle.std.proofs.lemmas.List.{drop_more, take_rest}
use Rattle.byte_feed.proofs.Compared.{begins_by}
use Rattle.byte_feed.proofs.stream.begins_with.Goals as goal

pub returns-in-len1-up : goal.returns-in-len1-up
returns-in-len1-up c =
    let bytes = c.args.bytes.now in
    let piece = c.args.piece.now in
    begins_by bytes _ piece c.args.byte _ c.starts_with.result (drop_more bytes 0 0 c.in-len1-up.len_at_least) c.if-first-byte.true
    (c.starts_with.ensures.value ∙ ap (λ (l : List ℕ). starts_with nat_eq l piece) (take_rest bytes 1))
