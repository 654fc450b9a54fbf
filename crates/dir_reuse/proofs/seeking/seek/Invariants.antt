use Rattle.std.proofs.Common.{◌^◌, ◌-◌, ◌≤◌, IsTrue}
use Rattle.byte_feed.specs.Feed.{Draws}
use Rattle.mlocate_db.specs.Reader.{is_live}
use Rattle.dir_reuse.specs.Coming.{coming, GoesKnown}
use Rattle.dir_reuse.proofs.seeking.seek.Given as goal

abbrev pub invariant-items : goal.invariant-items
invariant-items g l = record {
  live : IsTrue (is_live l.reader.stage);
  goes : GoesKnown l.dir (coming l.fn.reader) (coming l.reader) l.fn.reader.feed (g.S.Source.left l.fn.src) l.reader.feed (g.S.Source.left l.src);
  place : l.fn.reader.place ≤ l.reader.place;
  drawn : Draws l.fn.reader.feed l.reader.feed (g.S.Source.given l.fn.src) (g.S.Source.given l.src) (g.S.Source.left l.fn.src) (g.S.Source.left l.src);
  faults : g.S.Source.faults l.fn.src ≤ g.S.Source.faults l.src;
  kept : g.S.Source.kept l.fn.src l.src;
}

abbrev pub decreases-items : goal.decreases-items
decreases-items g l = 2 ^ 40 - l.reader.place
