use Rattle.std.proofs.Common.{rules, is_lt}
use Rattle.std.proofs.lemmas.Fn.{always_returns_same}
use Rattle.std.proofs.lemmas.List.Sorted.{ranks_by}
use Rattle.path_order.specs.NameList.{entry_cmp}
use Rattle.path_order.specs.Spans.{entry_at}
use Rattle.path_order.proofs.SortLemmas.{entry_total}
use Rattle.path_order.proofs.name_list.sort_spans.Goals as goal

pub returns-clause-sorted : goal.returns-clause-sorted
returns-clause-sorted c =
    c.in_ok-sort_by.ensures.sorted (λ x y. is_lt (entry_cmp (entry_at c.args.bytes.now x) (entry_at c.args.bytes.now y))) (ranks_by entry_total (entry_at c.args.bytes.now))
    (always_returns_same _ _ _ (λ a r f' k. search rules))
