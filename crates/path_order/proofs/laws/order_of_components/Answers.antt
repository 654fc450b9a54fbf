use Rattle.path_order.proofs.NamesOrder.{order_is_by_names}
use Rattle.path_order.proofs.laws.order_of_components.Goals as goal

pub returns : goal.returns
returns c = order_is_by_names c.args.a.now c.args.b.now c.requires.left c.requires.right
