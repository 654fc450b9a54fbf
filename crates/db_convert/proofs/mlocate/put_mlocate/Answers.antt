use Rattle.std.proofs.Common.{None, subst, ap}
use Rattle.std.specs.List.{flat_map}
use Rattle.std.specs.Io.KnownBytes.{Appends}
use Rattle.std.proofs.KnownBytes.{Appends-trans}
use Rattle.loc_outside.specs.Outside.{AppendsShort}
use Rattle.loc_outside.proofs.LessTaken.{err_from, short_first, short_after}
use Rattle.byte_feed.specs.Front.{spelling}
use Rattle.mlocate_db.specs.Items.{mlocate, spell}
use Rattle.db_convert.specs.Blocks.{block_items, encode_mlocate, entries_of, header_item, parents}
use Rattle.db_convert.specs.Turns.{items_from}
use Rattle.db_convert.proofs.TurnTexts.{on_ok, on_err}
use Rattle.db_convert.proofs.Turning.{blocks_are}
use Rattle.db_convert.proofs.mlocate.put_mlocate.Goals as goal

pub returns-in_err-put_front-clause-err : goal.returns-in_err-put_front-clause-err
returns-in_err-put_front-clause-err g c =
    err_from _ _ (short_first _ _ (spell header_item) (spelling mlocate (flat_map (block_items c.args.paths.now) (parents c.args.paths.now))) c.in_err-put_front.ensures.err)

pub returns-clause-ok : goal.returns-clause-ok
returns-clause-ok g c =
    let same = ap (spelling mlocate) (blocks_are c.args.paths.now) in
    on_ok c.put_blocks.result (Appends (g.K.Sink.taken c.put_front.new.sink) (g.K.Sink.taken c.put_blocks.new.sink) (spelling mlocate (items_from c.args.paths.now None (entries_of c.args.paths.now))))
    (Appends (g.K.Sink.taken c.args.sink.now) (g.K.Sink.taken c.put_blocks.new.sink) (encode_mlocate c.args.paths.now))
    (λ took. Appends-trans _ _ _ (spell header_item) (spelling mlocate (flat_map (block_items c.args.paths.now) (parents c.args.paths.now))) c.in_ok-put_front.ensures.ok
    (subst (Appends (g.K.Sink.taken c.put_front.new.sink) (g.K.Sink.taken c.put_blocks.new.sink)) same took))
    c.put_blocks.ensures.ok

pub returns-clause-err : goal.returns-clause-err
returns-clause-err g c =
    let same = ap (spelling mlocate) (blocks_are c.args.paths.now) in
    on_err c.put_blocks.result (AppendsShort (g.K.Sink.taken c.put_front.new.sink) (g.K.Sink.taken c.put_blocks.new.sink) (spelling mlocate (items_from c.args.paths.now None (entries_of c.args.paths.now))))
    (AppendsShort (g.K.Sink.taken c.args.sink.now) (g.K.Sink.taken c.put_blocks.new.sink) (encode_mlocate c.args.paths.now))
    (λ short. short_after _ _ _ (spell header_item) (spelling mlocate (flat_map (block_items c.args.paths.now) (parents c.args.paths.now))) c.in_ok-put_front.ensures.ok
    (subst (AppendsShort (g.K.Sink.taken c.put_front.new.sink) (g.K.Sink.taken c.put_blocks.new.sink)) same short))
    c.put_blocks.ensures.err
