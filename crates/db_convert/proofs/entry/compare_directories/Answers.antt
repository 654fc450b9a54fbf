use Rattle.std.proofs.Common.{sym, ◌∙◌, arith}
use Rattle.path_order.specs.Order.{path_cmp}
use Rattle.byte_feed.proofs.CommonPrefix.{left_of}
use Rattle.db_convert.proofs.Comparing.{path_past}
use Rattle.db_convert.proofs.entry.compare_directories.Goals as goal

pub returns : goal.returns
returns c =
    c.compare_paths.ensures.order ∙ (λ i. path_cmp (left_of c.common_prefix-same.result c.args.a.now i) (left_of c.common_prefix-same.result c.args.b.now i))
    ∙ sym (path_past c.common_prefix-same.result c.args.a.now c.args.b.now (omega (arith, c.common_prefix-same.ensures.value)))
