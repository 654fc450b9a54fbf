use Rattle.bigram_db.proofs.TableLaws.{chosen_by}
use Rattle.bigram_db.proofs.laws.counts_choose_table.Goals as goal

pub returns : goal.returns
returns c = chosen_by
