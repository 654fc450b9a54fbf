use Rattle.std.proofs.Common.{List, Option, Bor, ℕ, option_map, ap, ◌∙◌, sym}
use Rattle.std.specs.Prelude.{codes}
use Rattle.std.proofs.lemmas.Result.{IfOk-weaker}
use Rattle.clap.specs.Words.{Row, Text, is_simple_and_free}
use Rattle.tool_words.specs.Commands.{locate_command}
use Rattle.tool_words.specs.Matches.{found_in, value_of}
use Rattle.tool_words.specs.Locate.{databases_of, locate_asked, settings_of}
use Rattle.tool_words.proofs.AskedLemmas.{asked_by-refused, asked_by-taken}
use Rattle.tool_words.proofs.CommandLemmas.{simple_locate}
use Rattle.tool_words.proofs.locate.locate_asked.Goals as goal

pub taken-requires : goal.taken-requires
taken-requires c = ap is_simple_and_free c.in_ok-command.ensures ∙ simple_locate

pub returns-in_ok-databases-in-Some : goal.returns-in_ok-databases-in-Some
unfolding locate_asked
returns-in_ok-databases-in-Some c =
    let path = option_map (λ (t : Bor (List ℕ)). t.now) c.args.locate_path in
    let told = rw c.in-Some.is at c.in_ok-matches.ensures in
    let names = c.in_ok-databases-in-Some.ensures ∙ ap (λ (given : Option Text). databases_of given path) c.value_of.ensures in
    IfOk-weaker c.settings_of.result _ _ (λ o same. same
    ∙ (ap (settings_of (found_in c.in-Some.matches)) names
    ∙ sym (asked_by-taken _ locate_command (λ (m : List Row). settings_of m (databases_of (value_of (codes "database") m) path)) _ _
    c.in_ok-command.ensures told.0 told.1))) c.settings_of.ensures

pub returns-in-None : goal.returns-in-None
unfolding locate_asked
returns-in-None c =
    let path = option_map (λ (t : Bor (List ℕ)). t.now) c.args.locate_path in
    let told = rw c.in-None.is at c.in_ok-matches.ensures in
    sym (asked_by-refused _ locate_command (λ (m : List Row). settings_of m (databases_of (value_of (codes "database") m) path)) _
    c.in_ok-command.ensures told)
