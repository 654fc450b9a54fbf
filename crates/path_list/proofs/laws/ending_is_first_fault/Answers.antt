use Rattle.std.proofs.Common.{refl}
use Rattle.byte_feed.proofs.Endings.{whole_iff}
use Rattle.path_list.specs.Items.{list_by}
use Rattle.path_list.proofs.ItemLaws.{list_laws, list_shrinks}
use Rattle.path_list.proofs.ListEndings.{item_stays, list_ends}
use Rattle.path_list.proofs.laws.ending_is_first_fault.Goals as goal

pub returns : goal.returns
returns c = record {
  stays = λ mark last bytes more cause other e. item_stays mark last bytes more cause other e;
  whole = λ mark file small. let w = whole_iff (list_by mark) (list_shrinks mark) (list_laws mark) file small in (λ e. let h = w.0 e in (h.below, h.spelled), λ h. w.1 (record { below = h.0; spelled = h.1; may = refl }));
  faults = λ mark file fault e. list_ends mark file fault e;
}
