-- What the words of `exercise` ask for.
use Rattle.std.specs.Prelude.{ℕ, List, Option, Some, codes}
use Rattle.clap.specs.Words.{Row, Text}
use Rattle.tool_words.specs.Commands.{exercise_command}
use Rattle.tool_words.specs.Matches.{asked_by, value_of}
use Rattle.tool_words.specs.Values.{◌>>=◌, number_word, rounds_word}

-- the settings of an exercise: a number, and how many rounds are gone
pub record ExerciseAsked : Type 0 where
  -- what the generator begins with
  pub number : ℕ
  pub rounds : ℕ

unfoldable pub number_of : List Row → Option ℕ
number_of m = value_of (codes "NUMBER") m >>= number_word

unfoldable pub rounds_of : List Row → Option ℕ
rounds_of m = value_of (codes "ROUNDS") m >>= rounds_word

-- the settings, where both numbers can be read
unfoldable pub settings_of : List Row → Option ExerciseAsked
settings_of m = do
  number ← number_of m
  rounds ← rounds_of m
  Some (record { number = number; rounds = rounds })

-- what the words ask for; None is bad usage
unfoldable pub exercise_asked : List Text → Option ExerciseAsked
exercise_asked words = asked_by exercise_command settings_of words
