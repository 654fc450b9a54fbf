-- The commands: made an argument at a time, and simple.
use Rattle.std.proofs.Common.{◌≡◌, true, refl, ap, ◌∙◌}
use Rattle.clap.specs.Words.{App, Rule, is_simple_and_free}
use Rattle.tool_words.specs.Commands.{bare, convert_command, exercise_command, locate_command, updatedb_command, with_argument}

-- one argument more on a command that is known
pub step : (new old is : App) (r : Rule) → new ≡ with_argument old r → old ≡ is → new ≡ with_argument is r
step new old is r added before = added ∙ ap (λ (a : App). with_argument a r) before

pub simple_updatedb : is_simple_and_free updatedb_command ≡ true
unfolding updatedb_command with_argument bare
simple_updatedb = refl

pub simple_locate : is_simple_and_free locate_command ≡ true
unfolding locate_command with_argument bare
simple_locate = refl

pub simple_convert : is_simple_and_free convert_command ≡ true
unfolding convert_command with_argument bare
simple_convert = refl

pub simple_exercise : is_simple_and_free exercise_command ≡ true
unfolding exercise_command with_argument bare
simple_exercise = refl
