use Rattle.std.proofs.Common.{rules, is_lt}
use Rattle.std.proofs.lemmas.Fn.{always_returns_same}
use Rattle.std.proofs.lemmas.List.Sorted.{ranks_by}
use Rattle.db_convert.specs.Blocks.{entry_cmp}
use Rattle.db_convert.specs.Orders.{entry_at}
use Rattle.db_convert.proofs.Directories.{entry_total}
use Rattle.db_convert.proofs.order.sort_places.Goals as goal

pub returns-clause-sorted : goal.returns-clause-sorted
returns-clause-sorted c =
    c.in_ok-sort_by.ensures.sorted (λ x y. is_lt (entry_cmp (entry_at c.args.paths.now x) (entry_at c.args.paths.now y))) (ranks_by entry_total (entry_at c.args.paths.now))
    (always_returns_same _ _ _ (λ a r f' k. search rules))
