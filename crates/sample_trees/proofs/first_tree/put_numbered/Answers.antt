use Rattle.std.proofs.Common.{◌≡◌, ℕ, ◌+◌, List, true, refl, sym, ◌∙◌, ap, subst, arith}
use Rattle.path_order.specs.Names.{is_name}
use Rattle.loc_outside.specs.Edits.{changed_at, with_name}
use Rattle.loc_outside.specs.Trees.{Dirs}
use Rattle.sample_trees.specs.FirstTree.{with_more}
use Rattle.sample_trees.specs.Naming.{numbered, numbered_from}
use Rattle.sample_trees.proofs.Paths.{numbered-is_name}
use Rattle.sample_trees.proofs.DirEdits.{changed_none, changed_state, put_more}
use Rattle.sample_trees.proofs.first_tree.put_numbered.Goals as goal

pub loop-place-init : goal.loop-place-init
loop-place-init c = record { dirs = sym (changed_none c.args.tree.now.dirs c.args.dir.now); failures = refl }

pub put_name-requires-clause-name : goal.put_name-requires-clause-name
put_name-requires-clause-name c =
    subst (λ (n : List ℕ). is_name n ≡ true) (sym (c.bytes.ensures.value ∙ c.set_numbered.ensures))
    (numbered-is_name c.args.letter (c.args.from + c.loop-place.place) c.requires.letter (omega arith))

pub loop-place-preserved : goal.loop-place-preserved
loop-place-preserved c =
    let name : List ℕ = numbered c.args.letter (c.args.from + c.loop-place.place) in
    let is : c.bytes.result.now ≡ name = c.bytes.ensures.value ∙ c.set_numbered.ensures in
    let put = changed_state c.in_ok-put_name.field-0 c.loop-place.tree c.put_name.new.self c.args.dir.now (with_name c.bytes.result.now c.args.kind) c.in_ok-put_name.ensures.there c.in_ok-put_name.ensures.ok in
    record {
      dirs = put.dirs
          ∙ ap (λ (d : Dirs). changed_at d c.args.dir.now (with_name c.bytes.result.now c.args.kind)) c.loop-place.invariant.dirs
          ∙ ap (λ (n : List ℕ). changed_at (changed_at c.args.tree.now.dirs c.args.dir.now (with_more (numbered_from c.args.letter c.args.kind c.args.from c.loop-place.place))) c.args.dir.now (with_name n c.args.kind)) is
          ∙ put_more c.args.tree.now.dirs c.args.dir.now c.args.letter c.args.kind c.args.from c.loop-place.place;
      failures = put.failures ∙ c.loop-place.invariant.failures;
    }
