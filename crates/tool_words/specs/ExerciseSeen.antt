-- The settings of `exercise`, as contracts see them.
use Rattle.tool_words.specs.Exercise.{ExerciseAsked}
use Rattle.tool_words.specs.declared.settings.ExerciseSettings.{ExerciseSettings}

abbrev pub seen : ExerciseSettings → ExerciseAsked
seen s = record { number = s.number; rounds = s.rounds }
