use Rattle.std.proofs.Common.{◌≡◌, ◌-◌, ◌∙◌, ap, arith, List, ℕ, length}
use Rattle.path_order.specs.Path.{joined, is_normal}
use Rattle.tree_scan.proofs.WrittenNames.{here_by, fits_at}
use Rattle.tree_scan.proofs.Texts.{child_normal}
use Rattle.tree_scan.proofs.TreeAnswers.{push_directory, push_file, cut_path}
use Rattle.tree_scan.proofs.directory.push_children.Goals as goal

pub loop-at-preserved-in-File : goal.loop-at-preserved-in-File
loop-at-preserved-in-File c = record {
  path = c.loop-at.invariant.path;
  within = omega (arith, c.loop-at.invariant.within);
  pending = push_file c.args.path.now c.args.names.now c.loop-at.at (c.loop-at.at - 1) c.kind.result _ _ (omega (arith, c.loop-at-test.true)) c.kind.ensures c.in-File.is c.loop-at.invariant.pending;
}

pub loop-at-preserved : goal.loop-at-preserved
loop-at-preserved c = record {
  path = c.cut.ensures ∙ cut_path c.loop-at.path c.name.result.now c.join.new.path c.args.path.now _ (ap length c.bytes-len.ensures.value) c.loop-at.invariant.path c.in-Ok.ensures.ok;
  within = omega (arith, c.loop-at.invariant.within);
  pending = push_directory c.args.path.now c.name.result.now c.args.names.now c.loop-at.at (c.loop-at.at - 1) c.kind.result c.loop-at.pending c.args.pending.now c.push.new.self c.bytes.result.now c.join.new.path
      (omega (arith, c.loop-at-test.true)) (here_by _ c.name.result.now c.kind.result c.name.ensures c.kind.ensures) c.in-Directory.is c.loop-at.invariant.pending c.bytes.ensures.value (c.in-Ok.ensures.ok ∙ ap (λ (l : List ℕ). joined l c.name.result.now) c.loop-at.invariant.path) c.in_ok-push.ensures.ok;
}

pub push-requires : goal.push-requires
push-requires c =
    let fit = fits_at c.args.path.now c.args.names.now (c.loop-at.at - 1) c.name.result.now c.requires.fit c.name.ensures in
    let text : c.bytes.result.now ≡ joined c.args.path.now c.name.result.now = c.bytes.ensures.value ∙ c.in-Ok.ensures.ok ∙ ap (λ (l : List ℕ). joined l c.name.result.now) c.loop-at.invariant.path in
    ap is_normal text ∙ child_normal c.args.path.now c.name.result.now c.requires.normal fit
