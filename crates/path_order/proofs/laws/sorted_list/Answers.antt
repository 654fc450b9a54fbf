use Rattle.path_order.proofs.SortLemmas.{sorted_once, rising_sorts}
use Rattle.path_order.proofs.laws.sorted_list.Goals as goal

pub returns-clause-only : goal.returns-clause-only
returns-clause-only c = λ other s. sorted_once c.args.listed.now other c.args.sorted.now s c.requires

pub returns-clause-rising : goal.returns-clause-rising
returns-clause-rising c = λ other up same. sorted_once c.args.listed.now other c.args.sorted.now (rising_sorts c.args.listed.now other up same) c.requires
