use Rattle.std.proofs.Common.{◌≡◌, ℕ, ◌+◌, ◌-◌, ◌*◌, min, List, false, arith, ◌∙◌, ap, Ok, Err, OnOk, Result}
use Rattle.std.specs.declared.alloc.AllocError.{AllocError}
use Rattle.path_order.specs.declared.kind.Kind.TheVariants.{File, Directory}
use Rattle.loc_outside.specs.Edits.{changed_at, with_dir}
use Rattle.loc_outside.specs.Memory.{TreeState}
use Rattle.sample_trees.specs.FirstTree.{with_more, times_at}
use Rattle.sample_trees.specs.Naming.{numbered_from, directory_path}
use Rattle.sample_trees.proofs.DirEdits.{directory_put}
use Rattle.sample_trees.proofs.first_tree.put_directory.Goals as goal

on_ok : {P Q : Type 0} (r : Result (Unit {0}) AllocError) → OnOk r P → (P → Q) → OnOk r Q
on_ok (Ok u) p f = f p
on_ok (Err e) p f = p

pub returns-clause-dirs : goal.returns-clause-dirs
returns-clause-dirs c =
    let old = c.args.tree.now.dirs in
    let path : List ℕ = directory_path c.args.number in
    let first : c.bytes.result.now ≡ path = c.bytes.ensures.value ∙ c.set_directory_path.ensures.path in
    let second : c.bytes-2.result.now ≡ path = c.bytes-2.ensures.value ∙ c.set_directory_path.ensures.path in
    let third : c.bytes-3.result.now ≡ path = c.bytes-3.ensures.value ∙ c.set_directory_path.ensures.path in
    let below : c.min-below.result ≡ min 8 (2000 - 8 * c.args.number) = c.min-below.ensures ∙ ap (λ (n : ℕ). min n 8) c.saturating_sub.ensures ∙ min_turned (2000 - 8 * c.args.number) 8 in
    let put : c.put_dir.new.self.dirs ≡ with_dir old path (times_at 1000000) false =
    ap (λ (t : TreeState). t.dirs) c.in_ok-put_dir.ensures.ok ∙ (λ i. with_dir old (first i) (c.times_at.ensures i) false) in
    let files : c.put_numbered.new.tree.dirs ≡ changed_at (with_dir old path (times_at 1000000) false) path (with_more (numbered_from 102 File 0 c.args.files)) =
    c.in_ok-put_numbered.ensures.dirs ∙ (λ i. changed_at (put i) (second i) (with_more (numbered_from 102 File 0 c.args.files))) in
    on_ok c.put_numbered-2.result c.put_numbered-2.ensures.dirs (λ e.
    e ∙ (λ i. changed_at (files i) (third i) (with_more (numbered_from 100 Directory (8 * c.args.number + 1) (below i))))
    ∙ directory_put old path (times_at 1000000) (numbered_from 102 File 0 c.args.files) (numbered_from 100 Directory (8 * c.args.number + 1) (min 8 (2000 - 8 * c.args.number))) c.requires.absent)
  where
    min_turned : (a b : ℕ) → min a b ≡ min b a
    min_turned a b = omega arith
