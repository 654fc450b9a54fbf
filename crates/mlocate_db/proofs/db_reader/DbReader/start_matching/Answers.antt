use Rattle.std.proofs.Common.{◌≡◌, refl, ap}
use Rattle.mlocate_db.specs.declared.db_reader.Stage.TheVariants as stages
use Rattle.mlocate_db.specs.Reader.{ReaderState, is_done}
use Rattle.mlocate_db.proofs.Starts.{fresh_stage, started, not_started}
use Rattle.mlocate_db.proofs.db_reader.DbReader.start_matching.Goals as goal

pub returns-in-Ok-clause-header : goal.returns-in-Ok-clause-header
returns-in-Ok-clause-header g c =
    let s = c.self.inside in
    let r : ReaderState = record { feed = s.feed; path = s.path; dir_len = s.dir_len; stage = s.stage; version = s.version; flag = s.flag; stamp = s.stamp; device = s.device; shared = s.shared; place = s.place; heads = s.heads } in
    let stage : s.stage ≡ stages.Fresh = fresh_stage s.stage (rw (← c.self.view_is) at c.requires) in
    let at = c.self.invariant.3 (ap is_done stage) in
    rw (← c.self.view_is) (started r _ _ _ c.in-Ok.fixed _ _ c.in-Ok.same c.is_same.result stage refl at c.offset-self-inside.ensures.value refl refl (rw c.bytes.ensures.value at c.is_same.ensures) c.in-Ok.ensures.header)

pub returns-in-Err-clause-header : goal.returns-in-Err-clause-header
returns-in-Err-clause-header g c =
    let s = c.self.inside in
    let r : ReaderState = record { feed = s.feed; path = s.path; dir_len = s.dir_len; stage = s.stage; version = s.version; flag = s.flag; stamp = s.stamp; device = s.device; shared = s.shared; place = s.place; heads = s.heads } in
    let stage : s.stage ≡ stages.Fresh = fresh_stage s.stage (rw (← c.self.view_is) at c.requires) in
    let at = c.self.invariant.3 (ap is_done stage) in
    let n = c.read_header.new in
    let r' : ReaderState = record r { feed = n.feed; path = n.root } in
    rw (← c.self.view_is, c.fault_at.ensures) (not_started r r' _ _ _ _ c.in-Err.cause stage at c.in-Err.ensures.header)
