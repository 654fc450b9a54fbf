use Rattle.byte_feed.proofs.Endings.{whole_iff}
use Rattle.bigram_db.specs.Items.{bigram}
use Rattle.bigram_db.proofs.EntryLaws.{bigram_shrinks, bigram_laws}
use Rattle.bigram_db.proofs.ItemSteady.{item_stays, item_cut}
use Rattle.bigram_db.proofs.laws.ending_is_first_fault.Goals as goal

pub returns-clause-stays : goal.returns-clause-stays
returns-clause-stays c = λ last s bytes more cause other e. item_stays last s bytes more cause other e

pub returns-clause-cut : goal.returns-clause-cut
returns-clause-cut c = λ last s bytes e. let c = item_cut last s bytes e in (c.more, c.small, c.apart)

pub returns-clause-whole : goal.returns-clause-whole
returns-clause-whole c = λ file small. let w = whole_iff bigram bigram_shrinks bigram_laws file small in (λ e. let h = w.0 e in (h.below, h.spelled, h.may), λ h. w.1 (record { below = h.0; spelled = h.1; may = h.2 }))
