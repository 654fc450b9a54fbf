use Rattle.std.proofs.Common.{◌≡◌, None, sym, ◌∙◌, ap, subst, arith}
use Rattle.std.specs.FinMap.{get, insert}
use Rattle.loc_outside.specs.Memory.{TreeState, Failures}
use Rattle.loc_outside.specs.Trees.{Dirs}
use Rattle.sample_trees.specs.FirstTree.{first_dir, first_dirs, dirs_below}
use Rattle.sample_trees.specs.Naming.{directory_path}
use Rattle.sample_trees.proofs.Draws.{no_draws, drawn_at, state_more}
use Rattle.sample_trees.proofs.DirEdits.{dirs_below-lacks, dirs_more}
use Rattle.sample_trees.proofs.first_tree.first_tree.Goals as goal

pub loop-number-init : goal.loop-number-init
loop-number-init c = record {
  dirs = ap (λ (t : TreeState). t.dirs) c.new-tree.ensures;
  safe = ap (λ (t : TreeState). t.failures.due) c.new-tree.ensures;
  state = no_draws c.args.numbers.now.state;
}

pub put_directory-requires-clause-absent : goal.put_directory-requires-clause-absent
put_directory-requires-clause-absent c =
    subst (λ (d : Dirs). get d (directory_path c.loop-number.number) ≡ None) (sym c.loop-number.invariant.dirs)
    (dirs_below-lacks c.args.numbers.now.state c.loop-number.number c.loop-number.number (omega arith) (omega arith))

pub loop-number-preserved : goal.loop-number-preserved
loop-number-preserved c =
    let seed = c.args.numbers.now.state in
    let number = c.loop-number.number in
    let before = c.loop-number.invariant in
    let files = drawn_at seed number 8 c.loop-number.numbers.state c.draw-files.result before.state c.draw-files.ensures.value in
    record {
      dirs = c.in_ok-put_directory.ensures.dirs ∙ (λ i. insert (before.dirs i) (directory_path number) (first_dir number (files i))) ∙ dirs_more seed number;
      safe = ap (λ (f : Failures). f.due) c.in_ok-put_directory.ensures.failures ∙ before.safe;
      state = c.draw-files.ensures.state ∙ state_more seed number c.loop-number.numbers.state before.state;
    }

pub returns-clause-dirs : goal.returns-clause-dirs
unfolding first_dirs
returns-clause-dirs c =
    let all : c.loop-number.number ≡ 2001 = omega arith in
    c.loop-number.invariant.dirs ∙ ap (dirs_below c.args.numbers.now.state) all
