use Rattle.std.proofs.Common.{◌≡◌, ℕ, ◌+◌, ◌*◌, [], ◌∷◌, ◌++◌, map, sym, ◌∙◌, ap, subst, arith}
use Rattle.std.specs.List.{range_with_len}
use Rattle.std.proofs.lemmas.List.FromFn.{map-range_with_len_more}
use Rattle.loc_outside.specs.Memory.{fresh_tree}
use Rattle.loc_outside.specs.Trees.{Dirs}
use Rattle.sample_trees.specs.declared.step.SampleStep.{SampleStep}
use Rattle.sample_trees.specs.Kept.{AllShown}
use Rattle.sample_trees.specs.Rounds.{dirs_after, seconds_of}
use Rattle.sample_trees.specs.Steps.{step_after, sample_steps}
use Rattle.sample_trees.proofs.Draws.{states_on}
use Rattle.sample_trees.proofs.DirEdits.{round_more}
use Rattle.sample_trees.proofs.Stamps.{all_shown}
use Rattle.sample_trees.proofs.steps.sample_steps.Goals as goal

-- a step by its directories
step_of : Dirs → ℕ → SampleStep
step_of dirs round = record { tree = fresh_tree dirs; now = record { seconds = seconds_of round; nanos = 0 } }

pub loop-round-init : goal.loop-round-init
unfolding dirs_after step_of
loop-round-init c = record {
  dirs = c.in_ok-tree.ensures.dirs;
  safe = c.in_ok-tree.ensures.safe;
  state = c.in_ok-tree.ensures.state;
  steps = c.in_ok-push_step.ensures ∙ (λ i. c.new-steps.ensures.items i ++ step_of (c.in_ok-tree.ensures.dirs i) 0 ∷ []);
}

pub edit_round-requires-clause-shown : goal.edit_round-requires-clause-shown
edit_round-requires-clause-shown c = subst AllShown (sym c.loop-round.invariant.dirs) (all_shown c.args.seed c.loop-round.round)

pub loop-round-preserved : goal.loop-round-preserved
unfolding step_of
loop-round-preserved c =
    let seed = c.args.seed in
    let round = c.loop-round.round in
    let before = c.loop-round.invariant in
    let dirs : c.edit_round.new.tree.dirs ≡ dirs_after seed (round + 1) =
    c.in_ok-edit_round.ensures.dirs ∙ round_more seed round c.loop-round.numbers.state c.loop-round.tree.dirs before.state before.dirs in
    record {
      dirs = dirs;
      safe = c.in_ok-edit_round.ensures.safe;
      state = c.in_ok-edit_round.ensures.state ∙ states_on seed (2001 + 30 * round) 30 (2001 + 30 * (round + 1)) c.loop-round.numbers.state before.state (omega arith);
      steps = c.in_ok-push_step-2.ensures
          ∙ (λ i. before.steps i ++ step_of (dirs i) (round + 1) ∷ [])
          ∙ sym (map-range_with_len_more (step_after seed) 0 (round + 1) (round + 1) (omega arith));
    }

pub returns : goal.returns
unfolding sample_steps
returns c =
    let all : c.loop-round.round ≡ c.args.rounds = omega arith in
    c.loop-round.invariant.steps ∙ ap (λ (n : ℕ). map (step_after c.args.seed) (range_with_len 0 (n + 1))) all
