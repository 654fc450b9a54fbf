use Rattle.path_order.proofs.ParentLemmas.{has_parent}
use Rattle.path_order.proofs.laws.parent_and_base.Goals as goal

pub returns : goal.returns
returns c =
    let p = has_parent c.args.path.now c.requires.normal c.requires.below_root in
    record { joined = p.joined_again; components = p.components; parent = p.parent_is_normal; base = p.base_is_name }
