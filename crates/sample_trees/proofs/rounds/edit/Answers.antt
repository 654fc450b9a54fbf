use Rattle.std.proofs.Common.{◌≡◌, ℕ, ◌-◌, List, true, sym, ◌∙◌, ap, subst, arith}
use Rattle.path_order.specs.Names.{is_name}
use Rattle.loc_outside.specs.Edits.{with_times}
use Rattle.sample_trees.specs.FirstTree.{times_at}
use Rattle.sample_trees.specs.Naming.{directory_path, added_name}
use Rattle.sample_trees.specs.Numbers.{state_after, drawn}
use Rattle.sample_trees.specs.Rounds.{Edit, edit_drawn, seconds_of}
use Rattle.sample_trees.proofs.Draws.{drawn_at, state_more, no_draws}
use Rattle.sample_trees.proofs.Paths.{added_name-is_name}
use Rattle.sample_trees.proofs.DirEdits.{changed_state, edit_made}
use Rattle.sample_trees.proofs.rounds.edit.Goals as goal

pub change_names-requires-clause-name : goal.change_names-requires-clause-name
change_names-requires-clause-name c =
    subst (λ (n : List ℕ). is_name n ≡ true) (sym (c.bytes-2.ensures.value ∙ c.set_added_name.ensures))
    (added_name-is_name c.into.result c.args.place (omega arith) (omega arith))

pub overflow_sub-round_seconds : goal.overflow_sub-round_seconds
unfolding seconds_of
overflow_sub-round_seconds c = omega arith

pub returns-clause-state : goal.returns-clause-state
returns-clause-state c =
    let seed = c.args.numbers.now.state in
    let one = c.draw.ensures.state ∙ state_more seed 0 seed (no_draws seed) in
    let two = c.draw-change.ensures.state ∙ state_more seed 1 c.draw.new.self.state one in
    c.draw-early.ensures.state ∙ state_more seed 2 c.draw-change.new.self.state two

pub returns-clause-dirs : goal.returns-clause-dirs
unfolding edit_drawn
returns-clause-dirs c =
    let seed = c.args.numbers.now.state in
    let edit : Edit = edit_drawn seed 0 c.args.round c.args.place in
    let one : c.draw.new.self.state ≡ state_after seed 1 = c.draw.ensures.state ∙ state_more seed 0 seed (no_draws seed) in
    let two : c.draw-change.new.self.state ≡ state_after seed 2 = c.draw-change.ensures.state ∙ state_more seed 1 c.draw.new.self.state one in
    let number = drawn_at seed 0 2001 seed c.draw.result (no_draws seed) c.draw.ensures.value in
    let change = drawn_at seed 1 3 c.draw.new.self.state c.draw-change.result one c.draw-change.ensures.value in
    let early = drawn_at seed 2 8 c.draw-change.new.self.state c.draw-early.result two c.draw-early.ensures.value in
    let set : c.set_directory_path.new.path ≡ directory_path (drawn seed 0 2001) = c.set_directory_path.ensures.path ∙ ap directory_path number in
    let times : c.times_at.result ≡ times_at (seconds_of c.args.round - drawn seed 2 8) = c.times_at.ensures ∙ (λ i. times_at (c.round_seconds.ensures i - early i)) in
    let done = changed_state c.in_ok-set_times.field-0 c.change_names.new.tree c.set_times.new.self c.bytes-3.result.now (with_times c.times_at.result) c.in_ok-set_times.ensures.there c.in_ok-set_times.ensures.ok in
    edit_made c.args.tree.now.dirs c.change_names.new.tree.dirs c.set_times.new.self.dirs edit c.bytes.result.now c.bytes-3.result.now c.bytes-2.result.now c.draw-change.result c.times_at.result
    (c.bytes.ensures.value ∙ set) (c.bytes-3.ensures.value ∙ set)
    (c.bytes-2.ensures.value ∙ c.set_added_name.ensures ∙ ap (λ (n : ℕ). added_name n c.args.place) c.into.ensures)
    change times c.in_ok-change_names.ensures.dirs done.dirs
