use Rattle.std.proofs.Common.{refl, ◌∙◌, arith}
use Rattle.byte_feed.proofs.Draws.{draws_then}
use Rattle.byte_feed.proofs.AheadReads.{ahead_then}
use Rattle.byte_feed.proofs.Rests.{moved_then}
use Rattle.mlocate_db.proofs.PathSteps.{head_paths, end_paths, entry_paths, entry_shares}
use Rattle.mlocate_db.proofs.db_reader.DbReaderPathStream.next_path.Goals as goal

pub returns-in-Ok-Entry-clause-path : goal.returns-in-Ok-Entry-clause-path
returns-in-Ok-Entry-clause-path g c _ =
    let e = c.in-Ok-Entry.ensures in
    rw (← c.self-in-steps.view_is) at (moved_then _ _ _ _ _ _ _ _ _ _ _ c.steps.invariant.moved (entry_paths _ _ _ _ c.in-Ok-Entry.field-0-0 e.stepped.version (rw c.in-Ok-Entry.field-0-is at e.shows) (rw c.in-Ok-Entry.field-0-is at e.step)))

pub returns-in-Ok-Entry-clause-shares : goal.returns-in-Ok-Entry-clause-shares
returns-in-Ok-Entry-clause-shares g c _ =
    let e = c.in-Ok-Entry.ensures in
    rw (← c.self-in-steps.view_is) at (entry_shares _ _ _ _ c.steps.invariant.shares c.steps.invariant.inside (rw c.in-Ok-Entry.field-0-is at e.shows))

pub returns-in-Ok-Entry-clause-ahead : goal.returns-in-Ok-Entry-clause-ahead
returns-in-Ok-Entry-clause-ahead g c =
    let e = c.in-Ok-Entry.ensures.ahead in
    rw (← c.self-in-steps.view_is) at (ahead_then _ _ _ _ _ _ _ _ _ c.steps.invariant.drawn e.drawn e.held e.bound)

pub returns-in-Ok-End-clause-ahead : goal.returns-in-Ok-End-clause-ahead
returns-in-Ok-End-clause-ahead g c =
    let e = c.in-Ok-End.ensures.ahead in
    ahead_then _ _ _ _ _ _ _ _ _ c.steps.invariant.drawn e.drawn e.held e.bound

pub returns-in-Err-clause-ahead : goal.returns-in-Err-clause-ahead
returns-in-Err-clause-ahead g c =
    let e = c.in-Err.ensures.ahead in
    ahead_then _ _ _ _ _ _ _ _ _ c.steps.invariant.drawn e.drawn e.held e.bound

pub steps-preserved-in-Ok-Directory : goal.steps-preserved-in-Ok-Directory
steps-preserved-in-Ok-Directory g c =
    let e = c.in-Ok-Directory.ensures in
    record {
      live = rw c.in-Ok-Directory.field-0-is at e.live;
      moved = moved_then _ _ _ _ _ _ _ _ _ _ _ c.steps.invariant.moved (head_paths _ _ _ _ e.stepped.version (rw c.in-Ok-Directory.field-0-is at e.shows) (rw c.in-Ok-Directory.field-0-is at e.step));
      shares = record { within = omega arith; same = refl };
      inside = omega arith;
      place = omega (arith, c.steps.invariant.place, (rw c.in-Ok-Directory.field-0-is at e.stepped).grows refl);
      flag = e.stepped.flag ∙ c.steps.invariant.flag;
      drawn = draws_then _ _ _ _ _ _ _ _ _ c.steps.invariant.drawn e.ahead.drawn;
      faults = omega (arith, c.steps.invariant.faults, e.later);
      kept = g.met.S.Source.keeps_on _ _ _ c.steps.invariant.kept e.kept;
    }

pub steps-preserved : goal.steps-preserved
steps-preserved g c =
    let e = c.in-Ok-EndDirectory.ensures in
    record {
      live = rw c.in-Ok-EndDirectory.field-0-is at e.live;
      moved = moved_then _ _ _ _ _ _ _ _ _ _ _ c.steps.invariant.moved (end_paths _ _ _ _ e.stepped.version (rw c.in-Ok-EndDirectory.field-0-is at e.shows) (rw c.in-Ok-EndDirectory.field-0-is at e.step));
      shares = record { within = omega arith; same = refl };
      inside = omega arith;
      place = omega (arith, c.steps.invariant.place, (rw c.in-Ok-EndDirectory.field-0-is at e.stepped).grows refl);
      flag = e.stepped.flag ∙ c.steps.invariant.flag;
      drawn = draws_then _ _ _ _ _ _ _ _ _ c.steps.invariant.drawn e.ahead.drawn;
      faults = omega (arith, c.steps.invariant.faults, e.later);
      kept = g.met.S.Source.keeps_on _ _ _ c.steps.invariant.kept e.kept;
    }
