use Rattle.std.proofs.Common.{◌≡◌, ◌+◌, ◌<◌, ℕ, List, [], ◌∷◌, ◌++◌, length, drop, get_or, refl, sym, ap, ◌∙◌, arith}
use Rattle.loc_outside.proofs.LessTaken.{err_from, short_first}
use Rattle.locate02_db.specs.Items.{magic}
use Rattle.locate02_db.specs.Spelled.{encode_after}
use Rattle.locate02_db.specs.Writer.{WriterState, piece, after_put}
use Rattle.db_convert.proofs.Pieces.{wrote_more, wrote_short, wrote_all, drop_next, drop_end}
use Rattle.db_convert.proofs.locate02.put_locate02.Goals as goal

next_is : (w w' : WriterState) (paths : List (List ℕ)) (at : ℕ) (path : List ℕ) → at < length paths → path ≡ get_or paths at [] → w' ≡ after_put w path
    → encode_after w.path w.shared (drop at paths) ≡ piece w path ++ encode_after w'.path w'.shared (drop (at + 1) paths)
next_is w w' paths at path lt is went =
    ap (encode_after w.path w.shared) (drop_next paths at [] lt ∙ ap (λ (p : List ℕ). p ∷ drop (at + 1) paths) (sym is))
    ∙ ap (λ (v : WriterState). piece w path ++ encode_after v.path v.shared (drop (at + 1) paths)) (sym went)

pub paths-preserved : goal.paths-preserved
paths-preserved g c =
    let step = next_is _ _ c.args.paths.now c.paths.at _ (omega (arith, c.paths-test.true, c.len-at-end.ensures)) c.at.ensures c.in_ok-put.ensures.goes_on in
    record {
      wrote = wrote_more _ _ _ _ _ _ _ step c.paths.invariant.wrote c.in_ok-put.ensures.ok;
      later = omega (arith, c.paths.invariant.later, c.in_ok-put.ensures.cause.later);
      kept = g.met.K.Sink.keeps_on _ _ _ c.paths.invariant.kept c.in_ok-put.ensures.kept;
    }

pub returns-in_err-put-clause-err : goal.returns-in_err-put-clause-err
returns-in_err-put-clause-err g c =
    let step = next_is c.paths.writer (after_put c.paths.writer c.at.result.now) c.args.paths.now c.paths.at c.at.result.now (omega (arith, c.paths-test.true, c.len-at-end.ensures)) c.at.ensures refl in
    err_from _ _ (wrote_short _ _ _ _ _ _ _ step c.paths.invariant.wrote c.in_err-put.ensures.err)

pub returns-clause-ok : goal.returns-clause-ok
returns-clause-ok g c =
    wrote_all _ _ _ _ (ap (encode_after c.paths.writer.path c.paths.writer.shared) (drop_end c.args.paths.now c.paths.at (omega (arith, c.paths-test.false, c.len-at-end.ensures)))) c.paths.invariant.wrote

pub returns-in_err-start-clause-err : goal.returns-in_err-start-clause-err
returns-in_err-start-clause-err g c = err_from _ _ (short_first _ _ magic (encode_after [] 0 c.args.paths.now) c.in_err-start.ensures.err)
