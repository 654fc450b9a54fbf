use Rattle.std.proofs.Common.{subst, sym}
use Rattle.std.specs.Io.KnownBytes.{Appends}
use Rattle.std.proofs.KnownBytes.{Appends-trans}
use Rattle.loc_outside.specs.Outside.{AppendsShort}
use Rattle.loc_outside.proofs.LessTaken.{err_from, short_after}
use Rattle.byte_feed.specs.Field.{IsText, max_path}
use Rattle.byte_feed.specs.Front.{spelling}
use Rattle.mlocate_db.specs.Items.{EntryItem, mlocate, spell}
use Rattle.db_convert.specs.Turns.{open_at, opening}
use Rattle.db_convert.proofs.TurnTexts.{turn_is, writes_at}
use Rattle.db_convert.proofs.mlocate.put_turn.Goals as goal

pub put_entry-requires : goal.put_entry-requires
put_entry-requires g c =
    let w = writes_at c.args.paths.now c.args.places.now c.requires.order c.requires.readable c.requires.admitted c.args.at c.get-path.result.now c.requires.there c.get-path.ensures in
    record { name = subst (IsText max_path) (sym c.split.ensures.name) w.name }

pub returns-in_err-put_entry-clause-err : goal.returns-in_err-put_entry-clause-err
returns-in_err-put_entry-clause-err g c =
    let w = writes_at c.args.paths.now c.args.places.now c.requires.order c.requires.readable c.requires.admitted c.args.at c.get-path.result.now c.requires.there c.get-path.ensures in
    let text = turn_is c.args.paths.now c.args.places.now c.args.at c.get-path.result.now c.split.result.0.now c.split.result.1.now c.kind_at.result c.get-path.ensures c.split.ensures.dir c.split.ensures.name c.kind_at.ensures w.again in
    err_from _ _ (subst (AppendsShort (g.K.Sink.taken c.args.sink.now) (g.K.Sink.taken c.put_entry.new.sink)) text
    (short_after _ _ _ (spelling mlocate (opening (open_at c.args.paths.now c.args.places.now c.args.at) c.split.result.0.now)) (spell (EntryItem c.kind_at.result c.split.result.1.now)) c.in_ok-put_opening.ensures.ok c.in_err-put_entry.ensures.short))

pub returns-clause-ok : goal.returns-clause-ok
returns-clause-ok g c =
    let w = writes_at c.args.paths.now c.args.places.now c.requires.order c.requires.readable c.requires.admitted c.args.at c.get-path.result.now c.requires.there c.get-path.ensures in
    let text = turn_is c.args.paths.now c.args.places.now c.args.at c.get-path.result.now c.split.result.0.now c.split.result.1.now c.kind_at.result c.get-path.ensures c.split.ensures.dir c.split.ensures.name c.kind_at.ensures w.again in
    subst (Appends (g.K.Sink.taken c.args.sink.now) (g.K.Sink.taken c.put_entry.new.sink)) text
    (Appends-trans _ _ _ (spelling mlocate (opening (open_at c.args.paths.now c.args.places.now c.args.at) c.split.result.0.now)) (spell (EntryItem c.kind_at.result c.split.result.1.now)) c.in_ok-put_opening.ensures.ok c.in_ok-put_entry.ensures.ok)
