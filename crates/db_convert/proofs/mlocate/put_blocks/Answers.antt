use Rattle.std.proofs.Common.{◌≡◌, ℕ, List, [], ◌++◌, length, None, refl, sym, ◌∙◌, arith, append-nil}
use Rattle.std.specs.Io.KnownBytes.{Appends}
use Rattle.loc_outside.specs.Outside.{AppendsShort}
use Rattle.loc_outside.proofs.LessTaken.{err_from}
use Rattle.byte_feed.specs.Front.{spelling}
use Rattle.mlocate_db.specs.Items.{mlocate}
use Rattle.db_convert.specs.Blocks.{entries_of}
use Rattle.db_convert.specs.Turns.{closing, items_from, open_at}
use Rattle.db_convert.proofs.Pieces.{wrote_more, wrote_short, wrote_all}
use Rattle.db_convert.proofs.TurnTexts.{on_ok, on_err, next_turn, last_turn, text_from}
use Rattle.db_convert.proofs.mlocate.put_blocks.Goals as goal

pub turns-preserved : goal.turns-preserved
turns-preserved g c =
    let step = next_turn c.args.paths.now c.args.places.now c.requires.order c.turns.at (omega (arith, c.turns-test.true)) in
    record {
      wrote = wrote_more _ _ _ _ _ _ _ step c.turns.invariant.wrote c.in_ok-near.ensures.ok;
      later = omega (arith, c.turns.invariant.later, c.in_ok-near.ensures.cause.later);
      kept = g.met.K.Sink.keeps_on _ _ _ c.turns.invariant.kept c.in_ok-near.ensures.kept;
    }

pub returns-in_err-near-clause-err : goal.returns-in_err-near-clause-err
returns-in_err-near-clause-err g c =
    let step = next_turn c.args.paths.now c.args.places.now c.requires.order c.turns.at (omega (arith, c.turns-test.true)) in
    err_from _ _ (wrote_short _ _ _ _ _ _ _ step c.turns.invariant.wrote c.in_err-near.ensures.err)

pub returns-clause-ok : goal.returns-clause-ok
returns-clause-ok g c =
    let end : List ℕ = spelling mlocate (closing (open_at c.args.paths.now c.args.places.now (length c.args.places.now))) in
    let whole : List ℕ = spelling mlocate (items_from c.args.paths.now None (entries_of c.args.paths.now)) in
    let last : text_from c.args.paths.now c.args.places.now c.turns.at ≡ end ++ [] =
    last_turn c.args.paths.now c.args.places.now c.requires.order c.turns.at (omega (arith, c.turns-test.false)) (omega (arith, c.turns-test.false, c.turns.auto.at-end)) ∙ sym (append-nil end) in
    on_ok c.put_closing.result (Appends (g.K.Sink.taken c.turns.sink) (g.K.Sink.taken c.put_closing.new.sink) end) (Appends (g.K.Sink.taken c.args.sink.now) (g.K.Sink.taken c.put_closing.new.sink) whole)
    (λ took. wrote_all _ _ [] whole refl (wrote_more _ _ _ _ end [] whole last c.turns.invariant.wrote took)) c.put_closing.ensures.ok

pub returns-clause-err : goal.returns-clause-err
returns-clause-err g c =
    let end : List ℕ = spelling mlocate (closing (open_at c.args.paths.now c.args.places.now (length c.args.places.now))) in
    let whole : List ℕ = spelling mlocate (items_from c.args.paths.now None (entries_of c.args.paths.now)) in
    let last : text_from c.args.paths.now c.args.places.now c.turns.at ≡ end ++ [] =
    last_turn c.args.paths.now c.args.places.now c.requires.order c.turns.at (omega (arith, c.turns-test.false)) (omega (arith, c.turns-test.false, c.turns.auto.at-end)) ∙ sym (append-nil end) in
    on_err c.put_closing.result (AppendsShort (g.K.Sink.taken c.turns.sink) (g.K.Sink.taken c.put_closing.new.sink) end) (AppendsShort (g.K.Sink.taken c.args.sink.now) (g.K.Sink.taken c.put_closing.new.sink) whole)
    (λ short. wrote_short _ _ _ _ end [] whole last c.turns.invariant.wrote short) c.put_closing.ensures.err
