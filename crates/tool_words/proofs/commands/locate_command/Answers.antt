use Rattle.tool_words.specs.Commands.{locate_command}
use Rattle.tool_words.proofs.CommandLemmas.{step}
use Rattle.tool_words.proofs.commands.locate_command.Goals as goal

pub returns : goal.returns
unfolding locate_command
returns c = step _ _ _ _ c.in_ok-command-20.ensures
    (step _ _ _ _ c.in_ok-command-19.ensures
    (step _ _ _ _ c.in_ok-command-18.ensures
    (step _ _ _ _ c.in_ok-command-17.ensures
    (step _ _ _ _ c.in_ok-command-16.ensures
    (step _ _ _ _ c.in_ok-command-15.ensures
    (step _ _ _ _ c.in_ok-command-14.ensures
    (step _ _ _ _ c.in_ok-command-13.ensures
    (step _ _ _ _ c.in_ok-command-12.ensures
    (step _ _ _ _ c.in_ok-command-11.ensures
    (step _ _ _ _ c.in_ok-command-10.ensures
    (step _ _ _ _ c.in_ok-command-9.ensures
    (step _ _ _ _ c.in_ok-command-8.ensures
    (step _ _ _ _ c.in_ok-command-7.ensures
    (step _ _ _ _ c.in_ok-command-6.ensures
    (step _ _ _ _ c.in_ok-command-5.ensures
    (step _ _ _ _ c.in_ok-command-4.ensures
    (step _ _ _ _ c.in_ok-command-3.ensures
    (step _ _ _ _ c.in_ok-command-2.ensures
    (step _ _ _ _ c.in_ok-command.ensures (c.bare_command-command.ensures))))))))))))))))))))
