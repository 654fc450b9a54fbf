use Rattle.std.proofs.Common.{◌++◌, ◌∷◌, [], Bool, Ok, Err, refl, ap, ◌∙◌, arith}
use Rattle.byte_feed.proofs.Draws.{draws_none, draws_then}
use Rattle.byte_feed.proofs.Rests.{moved_none, moved_then, moved_same}
use Rattle.locate_engine.proofs.Counted.{one_more, files_more, bytes_more, counts_end, no_database, damaged_there, fits_after}
use Rattle.locate_engine.proofs.Endings.{all_read, by_reading, limit_read, not_missing}
use Rattle.locate_engine.proofs.counting.count_paths.Goals as goal

pub paths-init : goal.paths-init
paths-init g c = record {
  live = c.requires.live;
  counted = ([], moved_none _ _ _, refl, refl);
  files = omega arith;
  name_bytes = omega arith;
  drawn = draws_none _ _ _;
  src = g.met.S.Source.keeps_itself _;
  read = omega arith;
}

pub returns-in-Err-clause-counted : goal.returns-in-Err-clause-counted
returns-in-Err-clause-counted g c =
    let before = c.paths.invariant.counted in
    rw (c.stats_at.ensures, c.outcome_at.ensures) (counts_end _ _ before.0 _ _ _ _ _ _ before.2 before.3 _ _ _ _ before.1 c.in-Err.ensures.err)

pub returns-in-Err-clause-none_not_a_database : goal.returns-in-Err-clause-none_not_a_database
returns-in-Err-clause-none_not_a_database g c = rw (c.stats_at.ensures, c.outcome_at.ensures) (no_database (Err c.in-Err.fault) _)

pub returns-in-Err-clause-there : goal.returns-in-Err-clause-there
returns-in-Err-clause-there g c = rw c.outcome_at.ensures (not_missing (Err c.in-Err.fault))

pub returns-in-Err-clause-damaged : goal.returns-in-Err-clause-damaged
returns-in-Err-clause-damaged g c = rw (c.stats_at.ensures, c.outcome_at.ensures) (damaged_there (Err c.in-Err.fault) _ _ _ _ _ c.in-Err.ensures.stops)

pub returns-in-Err-clause-too_large : goal.returns-in-Err-clause-too_large
returns-in-Err-clause-too_large g c = rw c.outcome_at.ensures (limit_read (Err c.in-Err.fault) _ _ c.in-Err.ensures.stops)

pub returns-in-Err-clause-reading : goal.returns-in-Err-clause-reading
returns-in-Err-clause-reading g c = rw c.outcome_at.ensures (by_reading (Err c.in-Err.fault))

pub returns-in-Err-clause-fits : goal.returns-in-Err-clause-fits
returns-in-Err-clause-fits g c = rw c.stats_at.ensures (fits_after (Err c.in-Err.fault) _ (record {
  directories = c.in-Err.ensures.place.heads;
  files = omega (arith, c.paths.invariant.files, c.in-Err.ensures.place.forth);
  name_bytes = c.paths.invariant.name_bytes;
  stored = c.in-Err.ensures.place.bound;
}))

pub returns-in-Err-clause-drawn : goal.returns-in-Err-clause-drawn
returns-in-Err-clause-drawn g c = draws_then _ _ _ _ _ _ _ _ _ c.paths.invariant.drawn c.in-Err.ensures.ahead.drawn

pub returns-then-not-more-clause-counted : goal.returns-then-not-more-clause-counted
returns-then-not-more-clause-counted g c =
    let before = c.paths.invariant.counted in
    rw c.stats_so_far.ensures (counts_end _ _ before.0 _ _ _ _ _ _ before.2 before.3 _ _ _ (Ok tt) before.1 (c.in-Ok.ensures.end (ap (λ (b : Bool). Ok b) c.if-not-more.true)))

pub returns-then-not-more-clause-fits : goal.returns-then-not-more-clause-fits
returns-then-not-more-clause-fits g c = rw c.stats_so_far.ensures (record {
  directories = c.in-Ok.ensures.place.heads;
  files = omega (arith, c.paths.invariant.files, c.in-Ok.ensures.place.forth);
  name_bytes = c.paths.invariant.name_bytes;
  stored = c.in-Ok.ensures.place.bound;
})

pub returns-then-not-more-clause-drawn : goal.returns-then-not-more-clause-drawn
returns-then-not-more-clause-drawn g c = draws_then _ _ _ _ _ _ _ _ _ c.paths.invariant.drawn c.in-Ok.ensures.ahead.drawn

pub paths-preserved : goal.paths-preserved
paths-preserved g c =
    let before = c.paths.invariant.counted in
    let p = g.P.PathStream.found c.next_path.new.self in
    let one = c.in-Ok.ensures.path c.if-not-more.false in
    let grows = c.in-Ok.ensures.grows c.if-not-more.false in
    let text = (c.in-Ok.ensures.found c.if-not-more.false).text in
    record {
      live = c.in-Ok.ensures.live ∙ c.if-not-more.false;
      counted = (
        before.0 ++ p ∷ [],
        moved_same _ _ _ _ _ _ _ _ (one_more before.0 p) (moved_then _ _ _ _ _ _ _ _ _ _ _ before.1 one),
        omega (arith, before.2, files_more before.0 p),
        omega (arith, before.3, bytes_more before.0 p, c.name_length-name_bytes.ensures.value),
      );
      files = omega (arith, c.paths.invariant.files, grows);
      name_bytes = omega (arith, c.paths.invariant.name_bytes, c.name_length-name_bytes.ensures.within, text.fits);
      drawn = draws_then _ _ _ _ _ _ _ _ _ c.paths.invariant.drawn c.in-Ok.ensures.ahead.drawn;
      src = g.met.S.Source.keeps_on _ _ _ c.paths.invariant.src c.in-Ok.ensures.kept;
      read = omega (arith, c.paths.invariant.read, c.in-Ok.ensures.later);
    }

pub returns-in-Err-clause-whole : goal.returns-in-Err-clause-whole
returns-in-Err-clause-whole g c = rw c.outcome_at.ensures (all_read (Err c.in-Err.fault) _ _ c.in-Err.ensures.stops)

pub returns-then-not-more-clause-whole : goal.returns-then-not-more-clause-whole
returns-then-not-more-clause-whole g c = λ _. (c.in-Ok.ensures.whole (ap (λ (b : Bool). Ok b) c.if-not-more.true)).1
