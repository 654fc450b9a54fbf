use Rattle.std.proofs.Common.{Some, ap, ◌∙◌, sym, rules}
use Rattle.tool_words.specs.Matches.{found_in}
use Rattle.tool_words.specs.Updatedb.{UpdatedbAsked}
use Rattle.tool_words.proofs.SettingsLemmas.{settings_of-read}
use Rattle.tool_words.proofs.updatedb.settings_of.Goals as goal

pub returns : goal.returns
returns c = ap (λ (s : UpdatedbAsked). Some s) c.settings_with.ensures
    ∙ sym (settings_of-read (found_in c.args.matches.now) _ _ _ _ c.in_ok-visibility.ensures c.in_ok-prune_bind_mounts.ensures
    c.in_ok-version.ensures.value c.in_ok-margin.ensures.value (search rules))
