use Rattle.std.specs.List.{flat_map}
use Rattle.any_db.proofs.Formats.{mlocate_format}
use Rattle.tree_scan.specs.Blocks.{block, header}
use Rattle.tree_scan.specs.Reach.{reached}
use Rattle.update_runs.proofs.laws.scan_is_of_mlocate.Goals as goal

pub returns : goal.returns
unfolding header
returns c = λ dirs plan now.
    mlocate_format (record { version = plan.version; flag = plan.flag; padding = 0; root = plan.root; block = plan.block }) (flat_map (block plan now) (reached dirs plan.pruned plan.root))
