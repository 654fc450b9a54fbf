use Rattle.tree_scan.specs.Reach.{is_open, is_tried}
use Rattle.tree_scan.proofs.Same.{walk_is_led}
use Rattle.tree_scan.proofs.laws.walk_is_in_path_order.Goals as goal

pub returns : goal.returns
returns c = record {
  tried = λ dirs pruned. walk_is_led dirs pruned (is_tried pruned) c.args.root.now c.requires;
  reached = λ dirs pruned. walk_is_led dirs pruned (is_open pruned) c.args.root.now c.requires;
}
