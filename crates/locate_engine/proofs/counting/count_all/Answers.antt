use Rattle.std.proofs.Common.{Err}
use Rattle.byte_feed.proofs.Draws.{draws_then}
use Rattle.locate_engine.proofs.Counted.{counts_none, counts_before, drawn_fewer, nothing_fits, damaged_none}
use Rattle.locate_engine.proofs.Endings.{all_read, by_reading, limit_read, not_missing}
use Rattle.locate_engine.proofs.counting.count_all.Goals as goal

pub returns-in-Err-clause-counted : goal.returns-in-Err-clause-counted
returns-in-Err-clause-counted g c = rw (c.none.ensures, c.outcome_at.ensures) (counts_none _ _ _ _ (Err c.in-Err.fault) c.in-Err.ensures.err)

pub returns-in-Err-clause-there : goal.returns-in-Err-clause-there
returns-in-Err-clause-there g c = rw c.outcome_at.ensures (not_missing (Err c.in-Err.fault))

pub returns-in-Err-clause-damaged : goal.returns-in-Err-clause-damaged
returns-in-Err-clause-damaged g c = rw (c.none.ensures, c.outcome_at.ensures) (damaged_none (Err c.in-Err.fault) _ c.in-Err.ensures.stops)

pub returns-in-Err-clause-too_large : goal.returns-in-Err-clause-too_large
returns-in-Err-clause-too_large g c = rw c.outcome_at.ensures (limit_read (Err c.in-Err.fault) _ _ c.in-Err.ensures.stops)

pub returns-in-Err-clause-reading : goal.returns-in-Err-clause-reading
returns-in-Err-clause-reading g c = rw c.outcome_at.ensures (by_reading (Err c.in-Err.fault))

pub returns-in-Err-clause-fits : goal.returns-in-Err-clause-fits
returns-in-Err-clause-fits g c = rw c.none.ensures nothing_fits

pub returns-in-Ok-clause-counted : goal.returns-in-Ok-clause-counted
returns-in-Ok-clause-counted g c =
    counts_before _ _ _ _ _ _ _ _ _ c.in-Ok.ensures.ok (drawn_fewer _ _ _ _ _ _ c.count_paths.ensures.drawn) c.count_paths.ensures.counted

pub returns-in-Ok-clause-drawn : goal.returns-in-Ok-clause-drawn
returns-in-Ok-clause-drawn g c = draws_then _ _ _ _ _ _ _ _ _ c.in-Ok.ensures.ahead.drawn c.count_paths.ensures.drawn

pub returns-in-Err-clause-whole : goal.returns-in-Err-clause-whole
returns-in-Err-clause-whole g c = rw c.outcome_at.ensures (all_read (Err c.in-Err.fault) _ _ c.in-Err.ensures.stops)
