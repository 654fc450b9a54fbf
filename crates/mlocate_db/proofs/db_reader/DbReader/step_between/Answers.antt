use Rattle.std.proofs.Common.{◌≡◌, ◌+◌, length, refl, sym, ap, arith}
use Rattle.byte_feed.specs.Feed.{IsAllAhead}
use Rattle.mlocate_db.specs.declared.db_reader.Stage.TheVariants as stages
use Rattle.mlocate_db.specs.Reader.{ReaderState, is_done}
use Rattle.byte_feed.proofs.Streams.{stream_after}
use Rattle.byte_feed.proofs.AheadReads.{ahead_then}
use Rattle.mlocate_db.proofs.ReaderSteps.{between_head, between_end, between_large, between_err, not_end, head_wanting}
use Rattle.mlocate_db.proofs.db_reader.DbReader.step_between.Goals as goal

pub returns-in_default-clause-step : goal.returns-in_default-clause-step
returns-in_default-clause-step g c =
    let s = c.self.inside in
    let r : ReaderState = record { feed = s.feed; path = s.path; dir_len = s.dir_len; stage = s.stage; version = s.version; flag = s.flag; stamp = s.stamp; device = s.device; shared = s.shared; place = s.place; heads = s.heads } in
    let stage : s.stage ≡ stages.Between = rw (← c.self.view_is) at c.requires in
    let inv = c.self.invariant in
    let at = inv.3 (ap is_done stage) in
    let r' : ReaderState = record { feed = c.look.new.self; path = s.path; dir_len = s.dir_len; stage = stages.Done; version = s.version; flag = s.flag; stamp = s.stamp; device = s.device; shared = s.shared; place = s.place; heads = s.heads } in
    let e = c.in_default.ensures in
    rw (← c.self.view_is) (head_wanting r r' _ _ stage at e.took e.going.1 (omega (arith, e.few)))

pub returns-then-self-eq-LIMIT-clause-step : goal.returns-then-self-eq-LIMIT-clause-step
returns-then-self-eq-LIMIT-clause-step g c =
    let s = c.self.inside in
    let r : ReaderState = record { feed = s.feed; path = s.path; dir_len = s.dir_len; stage = s.stage; version = s.version; flag = s.flag; stamp = s.stamp; device = s.device; shared = s.shared; place = s.place; heads = s.heads } in
    let stage : s.stage ≡ stages.Between = rw (← c.self.view_is) at c.requires in
    let inv = c.self.invariant in
    let at = inv.3 (ap is_done stage) in
    let r' : ReaderState = record { feed = c.look.new.self; path = s.path; dir_len = s.dir_len; stage = stages.Done; version = s.version; flag = s.flag; stamp = s.stamp; device = s.device; shared = s.shared; place = s.place; heads = s.heads } in
    let e = c.in-Ok.ensures in
    let all : IsAllAhead c.look.new.self 0 = rw c.if-count-eq0.true at (e.all (omega (arith, c.if-count-eq0.true))) in
    rw (← c.self.view_is) (between_large r r' c.look.new.self _ _ stage at c.if-self-eq-LIMIT.true e.took e.offset all (omega (arith, e.bound)))

pub returns-then-count-eq0-clause-step : goal.returns-then-count-eq0-clause-step
returns-then-count-eq0-clause-step g c =
    let s = c.self.inside in
    let r : ReaderState = record { feed = s.feed; path = s.path; dir_len = s.dir_len; stage = s.stage; version = s.version; flag = s.flag; stamp = s.stamp; device = s.device; shared = s.shared; place = s.place; heads = s.heads } in
    let stage : s.stage ≡ stages.Between = rw (← c.self.view_is) at c.requires in
    let inv = c.self.invariant in
    let at = inv.3 (ap is_done stage) in
    let r' : ReaderState = record { feed = c.look.new.self; path = s.path; dir_len = s.dir_len; stage = stages.Done; version = s.version; flag = s.flag; stamp = s.stamp; device = s.device; shared = s.shared; place = s.place; heads = s.heads } in
    let e = c.in-Ok.ensures in
    let all : IsAllAhead c.look.new.self 0 = rw c.if-count-eq0.true at (e.all (omega (arith, c.if-count-eq0.true))) in
    rw (← c.self.view_is) (between_end r r' c.look.new.self _ _ stage at c.if-self-eq-LIMIT.false e.took e.offset all (omega (arith, e.bound)))

pub returns-in-Some-clause-step : goal.returns-in-Some-clause-step
returns-in-Some-clause-step g c =
    let s = c.self.inside in
    let r : ReaderState = record { feed = s.feed; path = s.path; dir_len = s.dir_len; stage = s.stage; version = s.version; flag = s.flag; stamp = s.stamp; device = s.device; shared = s.shared; place = s.place; heads = s.heads } in
    let stage : s.stage ≡ stages.Between = rw (← c.self.view_is) at c.requires in
    let inv = c.self.invariant in
    let at = inv.3 (ap is_done stage) in
    let n = c.read_head.new in
    let r' : ReaderState = record { feed = n.feed; path = n.path; dir_len = length c.bytes.result.now; stage = stages.Inside; version = s.version; flag = s.flag; stamp = c.in-Some.stamp; device = c.in-Ok-read_head.numbers.device; shared = s.shared; place = c.offset-self-inside.result; heads = s.heads + 1 } in
    let e = c.in-Ok-read_head.ensures in
    let t = c.in-Some.ensures.value in
    rw (← c.self.view_is) (between_head r r' _ _ c.in-Ok-read_head.numbers stage refl at c.offset-self-inside.ensures.value refl (ap length c.bytes.ensures.value) (sym t.0) (sym t.1) refl (stream_after _ _ _ _ _ _ _ _ _ c.in-Ok.ensures.took e.head))

pub returns-in-Err-clause-step : goal.returns-in-Err-clause-step
returns-in-Err-clause-step g c =
    let s = c.self.inside in
    let r : ReaderState = record { feed = s.feed; path = s.path; dir_len = s.dir_len; stage = s.stage; version = s.version; flag = s.flag; stamp = s.stamp; device = s.device; shared = s.shared; place = s.place; heads = s.heads } in
    let stage : s.stage ≡ stages.Between = rw (← c.self.view_is) at c.requires in
    let inv = c.self.invariant in
    let at = inv.3 (ap is_done stage) in
    let n = c.read_head.new in
    let r' : ReaderState = record { feed = n.feed; path = n.path; dir_len = 0; stage = stages.Done; version = s.version; flag = s.flag; stamp = s.stamp; device = s.device; shared = s.shared; place = s.place; heads = s.heads } in
    let look = c.in-Ok.ensures in
    rw (← c.self.view_is) (between_err r r' _ _ _ c.in-Err.cause stage at (not_end s.version _ _ _ _ look.took (omega (arith, look.held, c.if-count-eq0.false)) look.bound) (stream_after _ _ _ _ _ _ _ _ _ look.took c.in-Err.ensures.head))

pub returns-in-Some-clause-ahead : goal.returns-in-Some-clause-ahead
returns-in-Some-clause-ahead g c =
    let e = c.in-Ok-read_head.ensures.ahead in
    rw (← c.self.view_is) (ahead_then _ _ _ _ _ _ _ _ _ c.in-Ok.ensures.drawn e.drawn e.held e.bound)

pub returns-in-Err-clause-ahead : goal.returns-in-Err-clause-ahead
returns-in-Err-clause-ahead g c =
    let e = c.in-Err.ensures.ahead in
    rw (← c.self.view_is) (ahead_then _ _ _ _ _ _ _ _ _ c.in-Ok.ensures.drawn e.drawn e.held e.bound)
