use Rattle.byte_feed.proofs.Fronts.{front_is_front, only_front, one_item}
use Rattle.bigram_db.specs.Items.{bigram}
use Rattle.bigram_db.proofs.EntryLaws.{bigram_shrinks, bigram_laws}
use Rattle.bigram_db.proofs.laws.front_is_longest.Goals as goal

pub returns-clause-longest : goal.returns-clause-longest
returns-clause-longest c = λ file small. front_is_front bigram bigram_shrinks bigram_laws file small

pub returns-clause-only : goal.returns-clause-only
returns-clause-only c = λ file items small h. only_front bigram bigram_shrinks bigram_laws file items small h

pub returns-clause-unique : goal.returns-clause-unique
returns-clause-unique c = λ last s i j a b h k e. one_item bigram bigram_laws last s i j a b h k e
