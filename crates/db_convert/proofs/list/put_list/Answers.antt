use Rattle.std.proofs.Common.{◌≡◌, ◌+◌, ◌<◌, ℕ, List, [], ◌++◌, length, drop, get_or, sym, ap, ◌∙◌, arith}
use Rattle.loc_outside.proofs.LessTaken.{err_from}
use Rattle.path_list.specs.Items.{marked}
use Rattle.path_list.specs.Marks.{byte_of}
use Rattle.path_list.specs.Spelled.{encode_list}
use Rattle.db_convert.proofs.Pieces.{wrote_none, wrote_more, wrote_short, wrote_all, drop_next, drop_end}
use Rattle.db_convert.proofs.list.put_list.Goals as goal

next_is : (mark : ℕ) (paths : List (List ℕ)) (at : ℕ) (path : List ℕ) → at < length paths → path ≡ get_or paths at [] → encode_list mark (drop at paths) ≡ marked mark path ++ encode_list mark (drop (at + 1) paths)
next_is mark paths at path lt is = ap (encode_list mark) (drop_next paths at [] lt) ∙ ap (λ (p : List ℕ). marked mark p ++ encode_list mark (drop (at + 1) paths)) (sym is)

pub paths-init : goal.paths-init
paths-init g c = record { wrote = wrote_none _ _; later = omega arith; kept = g.met.K.Sink.keeps_itself _ }

pub paths-preserved : goal.paths-preserved
paths-preserved g c =
    let step = next_is (byte_of c.args.mark) c.args.paths.now c.paths.at _ (omega (arith, c.paths-test.true, c.len-at-end.ensures)) c.at.ensures in
    record {
      wrote = wrote_more _ _ _ _ _ _ _ step c.paths.invariant.wrote c.in_ok-put_path.ensures.ok;
      later = omega (arith, c.paths.invariant.later, c.in_ok-put_path.ensures.cause.later);
      kept = g.met.K.Sink.keeps_on _ _ _ c.paths.invariant.kept c.in_ok-put_path.ensures.kept;
    }

pub returns-in_err-put_path-clause-err : goal.returns-in_err-put_path-clause-err
returns-in_err-put_path-clause-err g c =
    let step = next_is (byte_of c.args.mark) c.args.paths.now c.paths.at _ (omega (arith, c.paths-test.true, c.len-at-end.ensures)) c.at.ensures in
    err_from _ _ (wrote_short _ _ _ _ _ _ _ step c.paths.invariant.wrote c.in_err-put_path.ensures.err)

pub returns-clause-ok : goal.returns-clause-ok
returns-clause-ok g c =
    wrote_all _ _ _ _ (ap (encode_list (byte_of c.args.mark)) (drop_end c.args.paths.now c.paths.at (omega (arith, c.paths-test.false, c.len-at-end.ensures)))) c.paths.invariant.wrote
