use Rattle.std.proofs.Common.{◌≡◌, ◌^◌, ◌-◌, ◌≤◌, IsTrue}
use Rattle.byte_feed.specs.Feed.{Draws}
use Rattle.byte_feed.specs.Calls.{MovedKnown, Shares}
use Rattle.mlocate_db.specs.Reader.{is_live, paths_left}
use Rattle.mlocate_db.proofs.db_reader.DbReaderPathStream.next_path.Given as goal

abbrev pub invariant-steps : goal.invariant-steps
invariant-steps g l = record {
  live : IsTrue (is_live l.self.stage);
  moved : MovedKnown (paths_left l.fn.self) (paths_left l.self) (λ t. t) l.fn.self.feed (g.S.Source.left l.fn.src) l.self.feed (g.S.Source.left l.src);
  shares : Shares l.shared l.fn.self.path l.self.path;
  inside : l.shared ≤ l.self.dir_len;
  place : l.fn.self.place ≤ l.self.place;
  flag : l.self.flag ≡ l.fn.self.flag;
  drawn : Draws l.fn.self.feed l.self.feed (g.S.Source.given l.fn.src) (g.S.Source.given l.src) (g.S.Source.left l.fn.src) (g.S.Source.left l.src);
  faults : g.S.Source.faults l.fn.src ≤ g.S.Source.faults l.src;
  kept : g.S.Source.kept l.fn.src l.src;
}

abbrev pub decreases-steps : goal.decreases-steps
decreases-steps g l = 2 ^ 40 - l.self.place
