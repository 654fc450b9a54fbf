use Rattle.std.proofs.Common.{ap, ◌∙◌}
use Rattle.tool_words.specs.Matches.{found_in}
use Rattle.tool_words.specs.Updatedb.{list_of}
use Rattle.tool_words.specs.Values.{is_normal_path}
use Rattle.tool_words.proofs.SettingsLemmas.{fits_given, kept}
use Rattle.tool_words.proofs.updatedb.settings_with.Goals as goal

pub invariant_of-result-clause-normal : goal.invariant_of-result-clause-normal
unfolding is_normal_path
invariant_of-result-clause-normal c = ap is_normal_path c.root_of.ensures ∙ (kept (found_in c.args.matches.now) c.requires.kept).root

pub invariant_of-result-clause-prunefs_fit : goal.invariant_of-result-clause-prunefs_fit
unfolding list_of
invariant_of-result-clause-prunefs_fit c = fits_given _ _ c.value_of.ensures (kept (found_in c.args.matches.now) c.requires.kept).prunefs

pub invariant_of-result-clause-prunenames_fit : goal.invariant_of-result-clause-prunenames_fit
unfolding list_of
invariant_of-result-clause-prunenames_fit c = fits_given _ _ c.value_of-2.ensures (kept (found_in c.args.matches.now) c.requires.kept).prunenames

pub invariant_of-result-clause-prunepaths_fit : goal.invariant_of-result-clause-prunepaths_fit
unfolding list_of
invariant_of-result-clause-prunepaths_fit c = fits_given _ _ c.value_of-3.ensures (kept (found_in c.args.matches.now) c.requires.kept).prunepaths

pub invariant_of-result-clause-named : goal.invariant_of-result-clause-named
invariant_of-result-clause-named c = let k = kept (found_in c.args.matches.now) c.requires.kept in rw c.output_of.ensures k.output

pub invariant_of-result-clause-additions_fit : goal.invariant_of-result-clause-additions_fit
invariant_of-result-clause-additions_fit c =
    let k = kept (found_in c.args.matches.now) c.requires.kept in
    (rw c.list_of.ensures k.add_prunefs, rw c.list_of-2.ensures k.add_prunenames, rw c.list_of-3.ensures k.add_prunepaths)
