use Rattle.std.proofs.Common.{◌≡◌, Some, rules}
use Rattle.loc_outside.specs.declared.traits.tree.Listing.TheVariants.{Missing}
use Rattle.sample_trees.proofs.DirEdits.{missing_listed}
use Rattle.sample_trees.proofs.rounds.find_first_file.Goals as goal

pub returns-in-Ok-Missing-clause-found : goal.returns-in-Ok-Missing-clause-found
returns-in-Ok-Missing-clause-found c =
    let is : c.in-Ok-Missing.field-0 ≡ Missing = first_of (search rules, (cc)) in
    missing_listed c.args.tree.now.dirs c.args.dir.now c.in-Ok-Missing.field-0 (Some c.open_dir.new.self.rest) is c.in-Ok-Missing.ensures.found
