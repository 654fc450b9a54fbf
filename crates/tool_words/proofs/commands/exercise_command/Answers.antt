use Rattle.tool_words.specs.Commands.{exercise_command}
use Rattle.tool_words.proofs.CommandLemmas.{step}
use Rattle.tool_words.proofs.commands.exercise_command.Goals as goal

pub returns : goal.returns
unfolding exercise_command
returns c = step _ _ _ _ c.in_ok-command-2.ensures
    (step _ _ _ _ c.in_ok-command.ensures (c.bare_command-command.ensures))
