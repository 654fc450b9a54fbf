use Rattle.std.proofs.Common.{◌∙◌}
use Rattle.sample_trees.proofs.DirEdits.{changes_nothing, finds_none}
use Rattle.sample_trees.proofs.rounds.change_names.Goals as goal

pub returns-then-change-ne1-clause-dirs : goal.returns-then-change-ne1-clause-dirs
returns-then-change-ne1-clause-dirs c = changes_nothing c.args.tree.now.dirs c.args.dir.now c.args.change c.args.added.now c.if-change-eq0.false c.if-change-ne1.true

pub returns-then-not-find_first_file-clause-dirs : goal.returns-then-not-find_first_file-clause-dirs
returns-then-not-find_first_file-clause-dirs c =
    c.find_first_file.ensures.dirs ∙ finds_none c.args.tree.now.dirs c.args.dir.now c.args.change c.args.added.now c.if-change-ne1.false c.if-not-find_first_file.ensures.found
