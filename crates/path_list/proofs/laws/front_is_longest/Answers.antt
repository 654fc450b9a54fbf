use Rattle.byte_feed.proofs.Fronts.{front_is_front, only_front, one_item}
use Rattle.path_list.specs.Items.{list_by}
use Rattle.path_list.proofs.ItemLaws.{list_laws, list_shrinks}
use Rattle.path_list.proofs.laws.front_is_longest.Goals as goal

pub returns : goal.returns
returns c = record {
  longest = λ mark file small. front_is_front (list_by mark) (list_shrinks mark) (list_laws mark) file small;
  only = λ mark file items small h. only_front (list_by mark) (list_shrinks mark) (list_laws mark) file items small h;
  unique = λ mark last i j a b h k e. one_item (list_by mark) (list_laws mark) last tt i j a b h k e;
}
