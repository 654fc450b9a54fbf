use Rattle.std.proofs.Common.{◌≡◌, ◌+◌, ◌<◌, ℕ, List, [], ◌∷◌, ◌++◌, length, drop, get_or, refl, sym, ap, ◌∙◌, arith}
use Rattle.loc_outside.proofs.LessTaken.{err_from}
use Rattle.byte_feed.specs.Prefix.{common_prefix}
use Rattle.bigram_db.specs.Spelled.{encode_path, encode_after}
use Rattle.bigram_db.specs.Writer.{WriterState, piece, after_put}
use Rattle.db_convert.proofs.Pieces.{wrote_more, wrote_short, drop_next}
use Rattle.db_convert.proofs.bigram.put_bigram.Goals as goal

next_is : (table : List ℕ) (w w' : WriterState) (paths : List (List ℕ)) (at : ℕ) (path : List ℕ) → w.table ≡ table → at < length paths → path ≡ get_or paths at [] → w' ≡ after_put w path
    → encode_after table w.path w.shared (drop at paths) ≡ piece w path ++ encode_after table w'.path w'.shared (drop (at + 1) paths)
next_is table w w' paths at path same lt is went =
    ap (encode_after table w.path w.shared) (drop_next paths at [] lt ∙ ap (λ (p : List ℕ). p ∷ drop (at + 1) paths) (sym is))
    ∙ ap (λ (t : List ℕ). encode_path t w.path w.shared path ++ encode_after table path (common_prefix w.path path) (drop (at + 1) paths)) (sym same)
    ∙ ap (λ (v : WriterState). piece w path ++ encode_after table v.path v.shared (drop (at + 1) paths)) (sym went)

pub paths-preserved : goal.paths-preserved
paths-preserved g c =
    let step = next_is c.args.table _ _ c.args.paths.now c.paths.at _ c.paths.invariant.table (omega (arith, c.paths-test.true, c.len-at-end.ensures)) c.at.ensures c.in_ok-put.ensures.after in
    record {
      wrote = wrote_more _ _ _ _ _ _ _ step c.paths.invariant.wrote c.in_ok-put.ensures.ok;
      table = ap (λ (v : WriterState). v.table) c.in_ok-put.ensures.after ∙ c.paths.invariant.table;
      later = omega (arith, c.paths.invariant.later, c.in_ok-put.ensures.cause.later);
      kept = g.met.K.Sink.keeps_on _ _ _ c.paths.invariant.kept c.in_ok-put.ensures.kept;
    }

pub returns-in_err-put-clause-err : goal.returns-in_err-put-clause-err
returns-in_err-put-clause-err g c =
    let step = next_is c.args.table c.paths.writer (after_put c.paths.writer c.at.result.now) c.args.paths.now c.paths.at c.at.result.now c.paths.invariant.table (omega (arith, c.paths-test.true, c.len-at-end.ensures)) c.at.ensures refl in
    err_from _ _ (wrote_short _ _ _ _ _ _ _ step c.paths.invariant.wrote c.in_err-put.ensures.err)
