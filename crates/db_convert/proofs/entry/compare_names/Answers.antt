use Rattle.std.proofs.Common.{sym, ◌∙◌, arith}
use Rattle.db_convert.specs.Blocks.{byte_cmp}
use Rattle.byte_feed.proofs.CommonPrefix.{left_of}
use Rattle.db_convert.proofs.Comparing.{byte_past}
use Rattle.db_convert.proofs.entry.compare_names.Goals as goal

pub returns : goal.returns
returns c =
    c.cmp.ensures ∙ (λ i. byte_cmp (left_of c.common_prefix-same.result c.args.a.now i) (left_of c.common_prefix-same.result c.args.b.now i))
    ∙ sym (byte_past c.common_prefix-same.result c.args.a.now c.args.b.now (omega (arith, c.common_prefix-same.ensures.value)))
