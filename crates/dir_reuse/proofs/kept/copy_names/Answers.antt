use Rattle.tree_scan.proofs.WrittenNames.{here_by}
use Rattle.dir_reuse.proofs.Vouching.{copies_more}
use Rattle.dir_reuse.proofs.kept.copy_names.Goals as goal

pub loop-at-preserved : goal.loop-at-preserved
loop-at-preserved c =
    copies_more c.args.from.now c.loop-at.into _ c.loop-at.at (c.name.result.now, c.kind.result) (here_by _ c.name.result.now c.kind.result c.name.ensures c.kind.ensures) c.loop-at.invariant c.in_ok-push.ensures.ok
