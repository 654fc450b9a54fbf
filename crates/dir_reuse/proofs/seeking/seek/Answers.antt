use Rattle.std.proofs.Common.{refl, sym, arith}
use Rattle.byte_feed.proofs.Draws.{draws_then}
use Rattle.mlocate_db.specs.declared.db_reader.Step.TheVariants as steps
use Rattle.mlocate_db.specs.Items.{EndItem}
use Rattle.mlocate_db.specs.Reader.{item_shown}
use Rattle.dir_reuse.specs.Coming.{coming}
use Rattle.dir_reuse.proofs.Further.{refused_none}
use Rattle.dir_reuse.proofs.Passing.{goes_to_head, goes_past, goes_past_item, seeks_end}
use Rattle.dir_reuse.proofs.seeking.seek.Goals as goal

pub items-preserved-in-Less : goal.items-preserved-in-Less
items-preserved-in-Less g c =
    let e = c.in-Ok-Directory.ensures in
    let live = rw c.in-Ok-Directory.field-0-is at e.live in
    record {
      live = live;
      goes = goes_past c.args.dir.now (coming c.args.reader.now) c.advance.new.self _ _ _ _ live (sym (rw c.path.ensures.value at c.in-Less.ensures.order)) (goes_to_head c.args.dir.now (coming c.args.reader.now) c.items.reader c.advance.new.self _ _ _ _ _ _ c.items.invariant.live e.stepped.version c.items.invariant.goes (rw c.in-Ok-Directory.field-0-is at e.step));
      place = omega (arith, c.items.invariant.place, (rw c.in-Ok-Directory.field-0-is at e.stepped).grows refl);
      drawn = draws_then _ _ _ _ _ _ _ _ _ c.items.invariant.drawn e.ahead.drawn;
      faults = omega (arith, c.items.invariant.faults, e.later);
      kept = g.met.S.Source.keeps_on _ _ _ c.items.invariant.kept e.kept;
    }

pub returns-in-Equal-clause-sought : goal.returns-in-Equal-clause-sought
returns-in-Equal-clause-sought g c =
    let e = c.in-Ok-Directory.ensures in
    goes_to_head c.args.dir.now (coming c.args.reader.now) c.items.reader c.advance.new.self _ _ _ _ _ _ c.items.invariant.live e.stepped.version c.items.invariant.goes (rw c.in-Ok-Directory.field-0-is at e.step)

pub returns-in-Equal-clause-drawn : goal.returns-in-Equal-clause-drawn
returns-in-Equal-clause-drawn g c = draws_then _ _ _ _ _ _ _ _ _ c.items.invariant.drawn c.in-Ok-Directory.ensures.ahead.drawn

pub returns-in-Greater-clause-sought : goal.returns-in-Greater-clause-sought
returns-in-Greater-clause-sought g c =
    let e = c.in-Ok-Directory.ensures in
    goes_to_head c.args.dir.now (coming c.args.reader.now) c.items.reader c.advance.new.self _ _ _ _ _ _ c.items.invariant.live e.stepped.version c.items.invariant.goes (rw c.in-Ok-Directory.field-0-is at e.step)

pub returns-in-Greater-clause-drawn : goal.returns-in-Greater-clause-drawn
returns-in-Greater-clause-drawn g c = draws_then _ _ _ _ _ _ _ _ _ c.items.invariant.drawn c.in-Ok-Directory.ensures.ahead.drawn

pub items-preserved-in-Ok-Entry : goal.items-preserved-in-Ok-Entry
items-preserved-in-Ok-Entry g c =
    let e = c.in-Ok-Entry.ensures in
    let live = rw c.in-Ok-Entry.field-0-is at e.live in
    record {
      live = live;
      goes = goes_past_item c.args.dir.now (coming c.args.reader.now) c.items.reader c.advance.new.self (item_shown (steps.Entry c.in-Ok-Entry.field-0-0) c.advance.new.self) _ _ _ _ _ _ c.items.invariant.live live e.stepped.version (λ p items. refl) c.items.invariant.goes (rw c.in-Ok-Entry.field-0-is at e.step);
      place = omega (arith, c.items.invariant.place, (rw c.in-Ok-Entry.field-0-is at e.stepped).grows refl);
      drawn = draws_then _ _ _ _ _ _ _ _ _ c.items.invariant.drawn e.ahead.drawn;
      faults = omega (arith, c.items.invariant.faults, e.later);
      kept = g.met.S.Source.keeps_on _ _ _ c.items.invariant.kept e.kept;
    }

pub items-preserved : goal.items-preserved
items-preserved g c =
    let e = c.in-Ok-EndDirectory.ensures in
    let live = rw c.in-Ok-EndDirectory.field-0-is at e.live in
    record {
      live = live;
      goes = goes_past_item c.args.dir.now (coming c.args.reader.now) c.items.reader c.advance.new.self EndItem _ _ _ _ _ _ c.items.invariant.live live e.stepped.version (λ p items. refl) c.items.invariant.goes (rw c.in-Ok-EndDirectory.field-0-is at e.step);
      place = omega (arith, c.items.invariant.place, (rw c.in-Ok-EndDirectory.field-0-is at e.stepped).grows refl);
      drawn = draws_then _ _ _ _ _ _ _ _ _ c.items.invariant.drawn e.ahead.drawn;
      faults = omega (arith, c.items.invariant.faults, e.later);
      kept = g.met.S.Source.keeps_on _ _ _ c.items.invariant.kept e.kept;
    }

pub returns-in-Ok-End-clause-sought : goal.returns-in-Ok-End-clause-sought
returns-in-Ok-End-clause-sought g c = seeks_end c.args.dir.now c.args.reader.now c.items.reader c.advance.new.self _ _ _ c.items.invariant.goes (rw c.in-Ok-End.field-0-is at c.in-Ok-End.ensures.step)

pub returns-in-Equal-clause-further : goal.returns-in-Equal-clause-further
returns-in-Equal-clause-further g c =
    let e = c.in-Ok-Directory.ensures in
    λ found. record { grows = omega (arith, c.items.invariant.place, (rw c.in-Ok-Directory.field-0-is at e.stepped).grows refl); bound = e.stepped.bound }

pub returns-in-Greater-clause-further : goal.returns-in-Greater-clause-further
returns-in-Greater-clause-further g c =
    let e = c.in-Ok-Directory.ensures in
    λ found. record { grows = omega (arith, c.items.invariant.place, (rw c.in-Ok-Directory.field-0-is at e.stepped).grows refl); bound = e.stepped.bound }

pub returns-in-Err-clause-further : goal.returns-in-Err-clause-further
returns-in-Err-clause-further g c = refused_none _ _ _ _ c.stopped_by.ensures
