use Rattle.bigram_db.specs.Chosen.{times, counted}
use Rattle.bigram_db.proofs.TableLaws.{ranked_each, ranked_pairs, chosen_table, chosen_unused, counted_one_more, before_more, counted_few}
use Rattle.bigram_db.proofs.laws.table_is_most_frequent.Goals as goal

pub returns-clause-table : goal.returns-clause-table
returns-clause-table c = λ paths. chosen_table (times (counted paths))

pub returns-clause-each : goal.returns-clause-each
returns-clause-each c = ranked_each

pub returns-clause-order : goal.returns-clause-order
returns-clause-order c = ranked_pairs

pub returns-clause-unused : goal.returns-clause-unused
returns-clause-unused c = λ paths e. chosen_unused (times (counted paths)) e

pub returns-clause-few : goal.returns-clause-few
returns-clause-few c = counted_few

pub returns-clause-one_more : goal.returns-clause-one_more
returns-clause-one_more c = counted_one_more

pub returns-clause-goes_on : goal.returns-clause-goes_on
returns-clause-goes_on c = before_more
