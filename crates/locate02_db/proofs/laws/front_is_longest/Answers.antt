use Rattle.std.proofs.Common.{true}
use Rattle.byte_feed.proofs.Fronts.{front_is_front, only_front, one_item}
use Rattle.locate02_db.specs.Items.{locate02}
use Rattle.locate02_db.proofs.ItemLaws.{locate02_laws}
use Rattle.locate02_db.proofs.ItemSizes.{locate02_shrinks}
use Rattle.locate02_db.proofs.laws.front_is_longest.Goals as goal

pub returns : goal.returns
returns c = record {
  longest = λ file small. front_is_front locate02 locate02_shrinks locate02_laws file small;
  only = λ file items small h. only_front locate02 locate02_shrinks locate02_laws file items small h;
  unique = λ s i j a b h k e. one_item locate02 locate02_laws true s i j a b h k e;
}
