use Rattle.std.proofs.Common.{◌≡◌, List, ℕ, true, arith, sym, subst}
use Rattle.std.proofs.lemmas.Grind.{common_steps}
use Rattle.path_order.specs.Path.{is_normal}
use Rattle.sample_trees.proofs.Paths.{path_of_root, path_of_below, path_fits, directory_path-is_normal}
use Rattle.sample_trees.proofs.naming.+set_directory_path.Goals as goal

pub returns-then-number-eq0-clause-path : goal.returns-then-number-eq0-clause-path
returns-then-number-eq0-clause-path t c =
    let root = path_of_root c.args.number in
    grind (arith, common_steps, root)

pub returns-clause-path : goal.returns-clause-path
returns-clause-path t c =
    let below = path_of_below c.args.number in
    let short = path_fits c.args.number in
    grind (arith, common_steps, below, short)

pub returns-clause-normal : goal.returns-clause-normal
returns-clause-normal t c = subst (λ (p : List ℕ). is_normal p ≡ true) (sym (returns-clause-path t c)) (directory_path-is_normal c.args.number c.requires)
