use Rattle.std.proofs.Common.{refl, sym}
use Rattle.dir_reuse.proofs.Cursors.{told_zero, told_later, told_end, told_other, told_yes, told_no, told_lost}
use Rattle.byte_feed.proofs.Draws.{draws_then}
use Rattle.dir_reuse.proofs.Near.{near_still, near_skips, near_whole, near_unusable, near_lost}
use Rattle.dir_reuse.proofs.cursor.Cursor.vouch.Goals as goal

pub returns-then-is_zero-clause-answers : goal.returns-then-is_zero-clause-answers
returns-then-is_zero-clause-answers g c = rw c.clear.ensures (told_zero c.args.dir.now c.args.stamp c.args.device c.args.self.now (g.S.Source.left c.args.src.now) (sym c.if-is_zero.ensures))

pub returns-in-Later-clause-answers : goal.returns-in-Later-clause-answers
returns-in-Later-clause-answers g c = rw c.clear.ensures (told_later c.args.dir.now c.args.stamp c.args.device c.args.self.now c.come_to.new.self _ _ c.in-Later.ensures.came c.in-Later.ensures.shows)

pub returns-in-End-clause-answers : goal.returns-in-End-clause-answers
returns-in-End-clause-answers g c = rw c.clear.ensures (told_end c.args.dir.now c.args.stamp c.args.device c.args.self.now c.come_to.new.self _ _ c.in-End.ensures.came c.in-End.ensures.shows)

pub returns-then-not-bears-clause-answers : goal.returns-then-not-bears-clause-answers
returns-then-not-bears-clause-answers g c =
    rw c.clear.ensures (told_other c.args.dir.now c.args.stamp c.args.device c.args.self.now c.come_to.new.self _ _ c.in-Here.ensures.came c.in-Here.ensures.shows c.if-not-bears.ensures)

pub returns-in-Ok-Whole-clause-answers : goal.returns-in-Ok-Whole-clause-answers
returns-in-Ok-Whole-clause-answers g c =
    told_yes c.args.dir.now c.args.stamp c.args.device c.args.self.now c.come_to.new.self _ _ _ _ _ c.in-Here.ensures.came c.in-Here.ensures.shows c.in-Here.ensures.shows.0.matched refl c.if-not-bears.ensures
    (rw c.in-Ok-Whole.field-0-is at c.in-Ok-Whole.ensures.names)

pub returns-in-Ok-Unusable-clause-answers : goal.returns-in-Ok-Unusable-clause-answers
returns-in-Ok-Unusable-clause-answers g c =
    let none = (rw c.in-Ok-Unusable.field-0-is at c.in-Ok-Unusable.ensures.empty) refl in
    rw none (told_no c.args.dir.now c.args.stamp c.args.device c.args.self.now c.come_to.new.self _ _ _ _ c.read_names.new.into c.in-Here.ensures.came c.in-Here.ensures.shows c.in-Here.ensures.shows.0.matched refl
    (rw c.in-Ok-Unusable.field-0-is at c.in-Ok-Unusable.ensures.names))

pub returns-in-Err-clause-answers : goal.returns-in-Err-clause-answers
returns-in-Err-clause-answers g c =
    told_lost c.args.dir.now c.args.stamp c.args.device c.args.self.now c.come_to.new.self _ _ _ _ _ _ c.in-Here.ensures.came c.in-Here.ensures.shows c.in-Here.ensures.shows.0.matched refl c.in-Err.ensures.names

pub returns-then-is_zero-clause-near : goal.returns-then-is_zero-clause-near
returns-then-is_zero-clause-near g c = near_still c.args.dir.now c.args.self.now _ c.requires

pub returns-in-Later-clause-near : goal.returns-in-Later-clause-near
returns-in-Later-clause-near g c = near_skips c.args.dir.now c.args.self.now c.come_to.new.self _ _ c.in-Later.ensures.sound c.in-Later.ensures.came

pub returns-in-End-clause-near : goal.returns-in-End-clause-near
returns-in-End-clause-near g c = near_skips c.args.dir.now c.args.self.now c.come_to.new.self _ _ c.in-End.ensures.sound c.in-End.ensures.came

pub returns-then-not-bears-clause-near : goal.returns-then-not-bears-clause-near
returns-then-not-bears-clause-near g c = near_skips c.args.dir.now c.args.self.now c.come_to.new.self _ _ c.in-Here.ensures.sound c.in-Here.ensures.came

pub returns-in-Ok-Whole-clause-near : goal.returns-in-Ok-Whole-clause-near
returns-in-Ok-Whole-clause-near g c =
    near_whole c.args.dir.now c.args.self.now c.come_to.new.self _ _ _ _ c.read_names.new.into c.in-Here.ensures.came c.in-Here.ensures.shows c.in-Ok-Whole.ensures.stands (rw c.in-Ok-Whole.field-0-is at c.in-Ok-Whole.ensures.near)
    (rw c.in-Ok-Whole.field-0-is at c.in-Ok-Whole.ensures.names)

pub returns-in-Ok-Unusable-clause-near : goal.returns-in-Ok-Unusable-clause-near
returns-in-Ok-Unusable-clause-near g c =
    near_unusable c.args.dir.now c.args.self.now c.come_to.new.self _ _ _ _ c.read_names.new.into c.in-Here.ensures.came c.in-Here.ensures.shows c.in-Ok-Unusable.ensures.stands
    (rw c.in-Ok-Unusable.field-0-is at c.in-Ok-Unusable.ensures.names)

pub returns-in-Err-clause-near : goal.returns-in-Err-clause-near
returns-in-Err-clause-near g c =
    near_lost c.args.dir.now c.args.self.now c.come_to.new.self _ _ _ _ c.read_names.new.into _ c.in-Here.ensures.came c.in-Here.ensures.shows c.in-Err.ensures.stands c.in-Err.ensures.near c.in-Err.ensures.names

pub returns-in-Ok-Whole-clause-drawn : goal.returns-in-Ok-Whole-clause-drawn
returns-in-Ok-Whole-clause-drawn g c = draws_then _ _ _ _ _ _ _ _ _ c.in-Here.ensures.drawn c.in-Ok-Whole.ensures.drawn

pub returns-in-Ok-Unusable-clause-drawn : goal.returns-in-Ok-Unusable-clause-drawn
returns-in-Ok-Unusable-clause-drawn g c = draws_then _ _ _ _ _ _ _ _ _ c.in-Here.ensures.drawn c.in-Ok-Unusable.ensures.drawn

pub returns-in-Ok-Fault-clause-drawn : goal.returns-in-Ok-Fault-clause-drawn
returns-in-Ok-Fault-clause-drawn g c = draws_then _ _ _ _ _ _ _ _ _ c.in-Here.ensures.drawn c.in-Ok-Fault.ensures.drawn

pub returns-in-Err-clause-drawn : goal.returns-in-Err-clause-drawn
returns-in-Err-clause-drawn g c = draws_then _ _ _ _ _ _ _ _ _ c.in-Here.ensures.drawn c.in-Err.ensures.drawn
