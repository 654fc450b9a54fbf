use Rattle.std.proofs.Common.{rules, tests, ◌≡◌, ◌-◌, get_or, subst, arith, false}
use Rattle.std.specs.Io.KnownBytes.{Appends}
use Rattle.std.specs.Str.{bytes_eq}
use Rattle.std.proofs.KnownBytes.{Appends-trans}
use Rattle.loc_outside.specs.Outside.{AppendsShort}
use Rattle.loc_outside.proofs.LessTaken.{short_after}
use Rattle.byte_feed.specs.Front.{spelling}
use Rattle.mlocate_db.specs.Items.{EndItem, mlocate, spell}
use Rattle.db_convert.specs.Orders.{entry_at}
use Rattle.db_convert.specs.Turns.{head_item, open_at, opening}
use Rattle.db_convert.proofs.TurnTexts.{on_ok, on_err, other_opening}
use Rattle.db_convert.proofs.mlocate.put_opening.Goals as goal

pub returns-clause-ok : goal.returns-clause-ok
returns-clause-ok g c =
    let other : bytes_eq (entry_at c.args.paths.now (get_or c.args.places.now (c.args.at - 1) 0)).0 c.args.dir.now ≡ false = search (rules, tests) in
    let text = other_opening c.args.paths.now c.args.places.now c.args.at c.args.dir.now (omega (arith, c.if-at-eq0.false)) other in
    on_ok c.put_head-2.result (Appends (g.K.Sink.taken c.put_end.new.sink) (g.K.Sink.taken c.put_head-2.new.sink) (spell (head_item c.args.dir.now)))
    (Appends (g.K.Sink.taken c.args.sink.now) (g.K.Sink.taken c.put_head-2.new.sink) (spelling mlocate (opening (open_at c.args.paths.now c.args.places.now c.args.at) c.args.dir.now)))
    (λ took. subst (Appends (g.K.Sink.taken c.args.sink.now) (g.K.Sink.taken c.put_head-2.new.sink)) text (Appends-trans _ _ _ (spell EndItem) (spell (head_item c.args.dir.now)) c.in_ok-put_end.ensures.ok took))
    c.put_head-2.ensures.ok

pub returns-clause-err : goal.returns-clause-err
returns-clause-err g c =
    let other : bytes_eq (entry_at c.args.paths.now (get_or c.args.places.now (c.args.at - 1) 0)).0 c.args.dir.now ≡ false = search (rules, tests) in
    let text = other_opening c.args.paths.now c.args.places.now c.args.at c.args.dir.now (omega (arith, c.if-at-eq0.false)) other in
    on_err c.put_head-2.result (AppendsShort (g.K.Sink.taken c.put_end.new.sink) (g.K.Sink.taken c.put_head-2.new.sink) (spell (head_item c.args.dir.now)))
    (AppendsShort (g.K.Sink.taken c.args.sink.now) (g.K.Sink.taken c.put_head-2.new.sink) (spelling mlocate (opening (open_at c.args.paths.now c.args.places.now c.args.at) c.args.dir.now)))
    (λ short. subst (AppendsShort (g.K.Sink.taken c.args.sink.now) (g.K.Sink.taken c.put_head-2.new.sink)) text (short_after _ _ _ (spell EndItem) (spell (head_item c.args.dir.now)) c.in_ok-put_end.ensures.ok short))
    c.put_head-2.ensures.err
