use Rattle.std.proofs.Common.{◌≡◌, ◌^◌, ◌-◌, ◌≤◌, IsTrue, true, All}
use Rattle.byte_feed.specs.Feed.{Draws}
use Rattle.byte_feed.specs.Calls.{MovedKnown}
use Rattle.mlocate_db.specs.declared.db_reader.Stage.TheVariants as stages
use Rattle.mlocate_db.specs.Reader.{dir_of, items_left}
use Rattle.tree_scan.specs.Admitted.{fits_in}
use Rattle.dir_reuse.specs.Usable.{are_usable}
use Rattle.dir_reuse.specs.Naming.{entries_of}
use Rattle.dir_reuse.proofs.Names.{after_items}
use Rattle.dir_reuse.proofs.naming.read_names.Given as goal

abbrev pub invariant-names : goal.invariant-names
invariant-names g l = record {
  inside : l.reader.stage ≡ stages.Inside;
  dir : dir_of l.reader ≡ l.fn.reader.path;
  usable : are_usable l.into ≡ true;
  fit : All (λ e. IsTrue (fits_in l.fn.reader.path e.0)) l.into;
  moved : MovedKnown (items_left l.fn.reader) (items_left l.reader) (after_items (entries_of l.into)) l.fn.reader.feed (g.S.Source.left l.fn.src) l.reader.feed (g.S.Source.left l.src);
  version : l.reader.version ≡ l.fn.reader.version;
  place : l.fn.reader.place ≤ l.reader.place;
  drawn : Draws l.fn.reader.feed l.reader.feed (g.S.Source.given l.fn.src) (g.S.Source.given l.src) (g.S.Source.left l.fn.src) (g.S.Source.left l.src);
  faults : g.S.Source.faults l.fn.src ≤ g.S.Source.faults l.src;
  kept : g.S.Source.kept l.fn.src l.src;
}

abbrev pub decreases-names : goal.decreases-names
decreases-names g l = 2 ^ 40 - l.reader.place
