use Rattle.std.proofs.Common.{◌≡◌, ℕ, List, [], ◌∷◌, ◌++◌, ◌∙◌, subst}
use Rattle.std.specs.Prelude.{OnErr}
use Rattle.path_order.specs.Path.{joined}
use Rattle.mlocate_db.proofs.WrittenParts.{err_after}
use Rattle.loc_outside.specs.Outside.{AppendsPart}
use Rattle.tree_scan.proofs.WrittenNames.{when_ok}
use Rattle.tree_scan.proofs.Texts.{joined_fits}
use Rattle.tree_scan.proofs.put.put_line.Goals as goal

pub returns-clause-err : goal.returns-clause-err
returns-clause-err g c =
    let text : c.bytes.result.now ≡ joined c.args.path.now c.args.name.now = c.bytes.ensures.value ∙ when_ok c.join.result _ (c.join.ensures.variant.1 (joined_fits c.args.path.now c.args.name.now c.requires.fits)) c.join.ensures.ok in
    subst (λ (l : List ℕ). OnErr c.put_all-2.result (AppendsPart (g.P.Sink.taken c.args.echo.now) (g.P.Sink.taken c.put_all-2.new.sink) (l ++ 10 ∷ []))) text
    (err_after c.put_all-2.result _ _ _ _ _ c.in_ok-put_all.ensures.ok c.put_all-2.ensures.err)
