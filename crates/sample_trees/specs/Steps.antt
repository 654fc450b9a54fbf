-- The steps of a sample.
use Rattle.std.specs.Prelude.{ℕ, ◌+◌, List, map}
use Rattle.std.specs.List.{range_with_len}
use Rattle.loc_outside.specs.Memory.{fresh_tree}
use Rattle.sample_trees.specs.declared.step.SampleStep.{SampleStep}
use Rattle.sample_trees.specs.Rounds.{dirs_after, seconds_of}

-- the tree after so many rounds, not opened yet, and the moment of that round; round 0 is the first step
abbrev pub step_after : ℕ → ℕ → SampleStep
step_after seed rounds = record { tree = fresh_tree (dirs_after seed rounds); now = record { seconds = seconds_of rounds; nanos = 0 } }

-- the first tree, and the one after each round
unfoldable pub sample_steps : ℕ → ℕ → List SampleStep
sample_steps seed rounds = map (step_after seed) (range_with_len 0 (rounds + 1))
