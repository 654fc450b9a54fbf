use Rattle.path_order.proofs.PathLemmas.{comps-joined, joined_is_normal}
use Rattle.path_order.proofs.laws.components_of_joined.Goals as goal

pub returns : goal.returns
returns c =
    let path = c.args.path.now in
    let name = c.args.name.now in
    record {
      components = comps-joined path name c.requires.normal c.requires.name;
      normal = joined_is_normal path name c.requires.normal c.requires.name;
    }
