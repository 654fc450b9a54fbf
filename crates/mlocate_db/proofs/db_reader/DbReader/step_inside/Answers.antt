use Rattle.std.proofs.Common.{◌≡◌, take, refl, ap, length-take, arith}
use Rattle.mlocate_db.specs.declared.db_reader.Stage.TheVariants as stages
use Rattle.mlocate_db.specs.Reader.{ReaderState, ShowsEntry, is_done, is_inside}
use Rattle.mlocate_db.proofs.ReaderSteps.{inside_entry, inside_end, inside_err, entry_path, entry_longer}
use Rattle.mlocate_db.proofs.db_reader.DbReader.step_inside.Goals as goal

pub returns-in-Ok-Entry-clause-step : goal.returns-in-Ok-Entry-clause-step
returns-in-Ok-Entry-clause-step g c =
    let s = c.self.inside in
    let r : ReaderState = record { feed = s.feed; path = s.path; dir_len = s.dir_len; stage = s.stage; version = s.version; flag = s.flag; stamp = s.stamp; device = s.device; shared = s.shared; place = s.place; heads = s.heads } in
    let stage : s.stage ≡ stages.Inside = rw (← c.self.view_is) at c.requires in
    let inv = c.self.invariant in
    let at = inv.3 (ap is_done stage) in
    let n = c.read_entry.new in
    let r' : ReaderState = record { feed = n.feed; path = n.path; dir_len = s.dir_len; stage = s.stage; version = s.version; flag = s.flag; stamp = s.stamp; device = s.device; shared = s.shared; place = c.offset-self-inside.result; heads = s.heads } in
    let e = c.in-Ok-Entry.ensures in
    rw (← c.self.view_is) (inside_entry r r' _ _ c.in-Ok-Entry.kind stage stage at c.offset-self-inside.ensures.value refl e.path.dir (rw c.in-Ok-Entry.field-0-is at e.item))

pub returns-in-Ok-Entry-clause-shows : goal.returns-in-Ok-Entry-clause-shows
returns-in-Ok-Entry-clause-shows g c =
    let s = c.self.inside in
    let r : ReaderState = record { feed = s.feed; path = s.path; dir_len = s.dir_len; stage = s.stage; version = s.version; flag = s.flag; stamp = s.stamp; device = s.device; shared = s.shared; place = s.place; heads = s.heads } in
    let stage : s.stage ≡ stages.Inside = rw (← c.self.view_is) at c.requires in
    let inv = c.self.invariant in
    let at = inv.3 (ap is_done stage) in
    let n = c.read_entry.new in
    let r' : ReaderState = record { feed = n.feed; path = n.path; dir_len = s.dir_len; stage = s.stage; version = s.version; flag = s.flag; stamp = s.stamp; device = s.device; shared = s.shared; place = c.offset-self-inside.result; heads = s.heads } in
    let e = c.in-Ok-Entry.ensures in
    let listed = rw c.in-Ok-Entry.field-0-is at e.path in
    let shown : ShowsEntry r r' = record {
      before = stage;
      after = stage;
      dir = listed.dir;
      dir_len = refl;
      below = omega (arith, entry_longer (take s.dir_len s.path) n.path c.in-Ok-Entry.kind listed.listed, length-take s.dir_len s.path, inv.0);
      joined = listed.listed.0;
      text = entry_path (take s.dir_len s.path) n.path c.in-Ok-Entry.kind (inv.4 (ap is_inside stage)) listed.listed;
      stamp = refl;
      device = refl;
      heads = refl;
    } in
    rw (← c.self.view_is) shown

pub returns-in-Ok-End-clause-step : goal.returns-in-Ok-End-clause-step
returns-in-Ok-End-clause-step g c =
    let s = c.self.inside in
    let r : ReaderState = record { feed = s.feed; path = s.path; dir_len = s.dir_len; stage = s.stage; version = s.version; flag = s.flag; stamp = s.stamp; device = s.device; shared = s.shared; place = s.place; heads = s.heads } in
    let stage : s.stage ≡ stages.Inside = rw (← c.self.view_is) at c.requires in
    let inv = c.self.invariant in
    let at = inv.3 (ap is_done stage) in
    let n = c.read_entry.new in
    let r' : ReaderState = record { feed = n.feed; path = n.path; dir_len = s.dir_len; stage = stages.Between; version = s.version; flag = s.flag; stamp = s.stamp; device = s.device; shared = s.shared; place = c.offset-self-inside-in-Ok-End.result; heads = s.heads } in
    rw (← c.self.view_is) (inside_end r r' _ _ stage refl at c.offset-self-inside-in-Ok-End.ensures.value refl (rw c.in-Ok-End.field-0-is at c.in-Ok-End.ensures.item))

pub returns-in-Err-clause-step : goal.returns-in-Err-clause-step
returns-in-Err-clause-step g c =
    let s = c.self.inside in
    let r : ReaderState = record { feed = s.feed; path = s.path; dir_len = s.dir_len; stage = s.stage; version = s.version; flag = s.flag; stamp = s.stamp; device = s.device; shared = s.shared; place = s.place; heads = s.heads } in
    let stage : s.stage ≡ stages.Inside = rw (← c.self.view_is) at c.requires in
    let inv = c.self.invariant in
    let at = inv.3 (ap is_done stage) in
    let n = c.read_entry.new in
    let r' : ReaderState = record { feed = n.feed; path = n.path; dir_len = 0; stage = stages.Done; version = s.version; flag = s.flag; stamp = s.stamp; device = s.device; shared = s.shared; place = s.place; heads = s.heads } in
    rw (← c.self.view_is) (inside_err r r' _ _ _ c.in-Err.cause stage at c.in-Err.ensures.item)
