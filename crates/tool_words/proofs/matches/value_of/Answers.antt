use Rattle.std.proofs.Common.{◌∙◌}
use Rattle.clap.specs.Words.{found_of}
use Rattle.clap.proofs.WalkLemmas.{first_value-rows}
use Rattle.tool_words.specs.Matches.{found_in, value_of}
use Rattle.tool_words.proofs.matches.value_of.Goals as goal

pub returns : goal.returns
unfolding found_in value_of
returns c = c.get_str.ensures ∙ first_value-rows (found_of c.args.matches.now) c.args.id.now
