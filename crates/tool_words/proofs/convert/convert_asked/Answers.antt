use Rattle.std.proofs.Common.{ap, ◌∙◌, sym}
use Rattle.clap.specs.Words.{is_simple_and_free}
use Rattle.tool_words.specs.Commands.{convert_command}
use Rattle.tool_words.specs.Convert.{settings_of, convert_asked}
use Rattle.tool_words.proofs.AskedLemmas.{asked_by-refused, asked_by-taken}
use Rattle.tool_words.proofs.CommandLemmas.{simple_convert}
use Rattle.tool_words.proofs.convert.convert_asked.Goals as goal

pub taken-requires : goal.taken-requires
taken-requires c = ap is_simple_and_free c.in_ok-command.ensures ∙ simple_convert

pub returns-in-Some : goal.returns-in-Some
unfolding convert_asked
returns-in-Some c =
    let told = rw c.in-Some.is at c.in_ok-matches.ensures in
    c.settings_of.ensures ∙ sym (asked_by-taken _ convert_command settings_of _ _ c.in_ok-command.ensures told.0 told.1)

pub returns-in-None : goal.returns-in-None
unfolding convert_asked
returns-in-None c =
    let told = rw c.in-None.is at c.in_ok-matches.ensures in
    sym (asked_by-refused _ convert_command settings_of _ c.in_ok-command.ensures told)
