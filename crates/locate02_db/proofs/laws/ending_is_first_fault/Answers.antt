use Rattle.byte_feed.proofs.Endings.{whole_iff}
use Rattle.locate02_db.specs.Items.{locate02}
use Rattle.locate02_db.proofs.ItemLaws.{locate02_laws}
use Rattle.locate02_db.proofs.ItemSizes.{locate02_shrinks}
use Rattle.locate02_db.proofs.ItemSteady.{item_steady}
use Rattle.locate02_db.proofs.laws.ending_is_first_fault.Goals as goal

pub returns : goal.returns
returns c = record {
  stays = λ s bytes more cause other e. (item_steady s).stays bytes more cause other e;
  cut = λ s bytes e. let c = (item_steady s).changes bytes e in (c.more, c.small, c.apart);
  whole = λ file small. let w = whole_iff locate02 locate02_shrinks locate02_laws file small in (λ e. let h = w.0 e in (h.below, h.spelled, h.may), λ h. w.1 (record { below = h.0; spelled = h.1; may = h.2 }));
}
