use Rattle.std.proofs.Common.{◌≡◌, ℕ, ◌+◌, ◌*◌, refl, sym, ◌∙◌, ap, subst, arith}
use Rattle.sample_trees.specs.Kept.{AllShown}
use Rattle.sample_trees.specs.Rounds.{edit_drawn, after_edits, edits_drawn, after_round}
use Rattle.sample_trees.proofs.Draws.{no_draws, states_on}
use Rattle.sample_trees.proofs.DirEdits.{edits_step}
use Rattle.sample_trees.proofs.Stamps.{shown_edit}
use Rattle.sample_trees.proofs.rounds.edit_round.Goals as goal

pub loop-place-init : goal.loop-place-init
loop-place-init c = record { dirs = refl; shown = c.requires.shown; safe = c.requires.safe; state = no_draws c.args.numbers.now.state }

pub loop-place-preserved : goal.loop-place-preserved
loop-place-preserved c =
    let before = c.loop-place.invariant in
    record {
      dirs = c.in_ok-edit.ensures.dirs ∙ edits_step c.args.numbers.now.state c.args.round c.loop-place.place c.loop-place.numbers.state c.args.tree.now.dirs c.loop-place.tree.dirs before.state before.dirs;
      shown = subst AllShown (sym c.in_ok-edit.ensures.dirs) (shown_edit (edit_drawn c.loop-place.numbers.state 0 c.args.round c.loop-place.place) c.loop-place.tree.dirs before.shown);
      safe = c.in_ok-edit.ensures.safe;
      state = c.in_ok-edit.ensures.state ∙ states_on c.args.numbers.now.state (3 * c.loop-place.place) 3 (3 * (c.loop-place.place + 1)) c.loop-place.numbers.state before.state (omega arith);
    }

pub returns-clause-dirs : goal.returns-clause-dirs
unfolding after_round
returns-clause-dirs c =
    let all : c.loop-place.place ≡ 10 = omega arith in
    c.loop-place.invariant.dirs ∙ ap (λ (n : ℕ). after_edits (edits_drawn c.args.numbers.now.state 0 c.args.round n) c.args.tree.now.dirs) all
