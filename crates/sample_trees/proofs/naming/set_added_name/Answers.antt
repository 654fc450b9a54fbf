use Rattle.std.proofs.Common.{[], ◌∷◌, append_assoc, arith, decimal}
use Rattle.std.proofs.lemmas.Grind.{common_steps}
use Rattle.sample_trees.specs.Naming.{numbered, added_name}
use Rattle.sample_trees.proofs.Paths.{length-numbered}
use Rattle.sample_trees.proofs.naming.set_added_name.Goals as goal

pub returns : goal.returns
unfolding numbered added_name
returns c =
    let short = length-numbered 110 c.args.round c.ranges.round.fits in
    let assoc = append_assoc (numbered 110 c.args.round) (95 ∷ []) (decimal c.args.edit) in
    grind (arith, common_steps, short, assoc)
