use Rattle.std.proofs.Common.{true}
use Rattle.byte_feed.proofs.Fronts.{front_is_front, only_front, one_item}
use Rattle.mlocate_db.specs.Items.{mlocate}
use Rattle.mlocate_db.proofs.ItemLaws.{mlocate_laws}
use Rattle.mlocate_db.proofs.ItemSizes.{mlocate_shrinks}
use Rattle.mlocate_db.proofs.laws.front_is_longest.Goals as goal

pub returns : goal.returns
returns c = record {
  longest = λ file small. front_is_front mlocate mlocate_shrinks mlocate_laws file small;
  only = λ file items small h. only_front mlocate mlocate_shrinks mlocate_laws file items small h;
  unique = λ s i j a b h k e. one_item mlocate mlocate_laws true s i j a b h k e;
}
