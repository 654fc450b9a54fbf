use Rattle.std.proofs.Common.{◌≡◌, true, refl, arith}
use Rattle.byte_feed.specs.Feed.{IsAllAhead}
use Rattle.byte_feed.proofs.AheadReads.{ahead_then}
use Rattle.bigram_db.specs.declared.reader.Stage.TheVariants as stages
use Rattle.bigram_db.specs.Reader.{ReaderState, is_live}
use Rattle.bigram_db.proofs.ReaderSteps.{next_found, next_err, next_fault, next_end, next_large, live_not_done}
use Rattle.bigram_db.proofs.reader.ReaderBigramPathStream.next_path.Goals as goal

pub returns-in_default-clause-err : goal.returns-in_default-clause-err
returns-in_default-clause-err g c =
    let s = c.self.inside in
    let r : ReaderState = record { feed = s.feed; table = s.table; path = s.path; shared = s.shared; stage = s.stage; place = s.place } in
    let live : is_live s.stage ≡ true = rw (← c.self.view_is) at c.requires in
    let at = c.self.invariant.3 (live_not_done s.stage live) in
    let r' : ReaderState = record { feed = c.look.new.self; table = s.table; path = s.path; shared = s.shared; stage = stages.Done; place = s.place } in
    let e = c.in_default.ensures in
    rw (← c.self.view_is) (next_fault r r' _ _ live at e.took e.going.1 (omega (arith, e.few)))

pub returns-then-self-eq-LIMIT-clause-err : goal.returns-then-self-eq-LIMIT-clause-err
returns-then-self-eq-LIMIT-clause-err g c =
    let s = c.self.inside in
    let r : ReaderState = record { feed = s.feed; table = s.table; path = s.path; shared = s.shared; stage = s.stage; place = s.place } in
    let live : is_live s.stage ≡ true = rw (← c.self.view_is) at c.requires in
    let at = c.self.invariant.3 (live_not_done s.stage live) in
    let e = c.in-Ok.ensures in
    let all : IsAllAhead c.look.new.self 0 = rw c.if-count-eq0.true at (e.all (omega (arith, c.if-count-eq0.true))) in
    rw (← c.self.view_is) (next_large r c.look.new.self _ _ live at c.if-self-eq-LIMIT.true e.took e.offset all (omega (arith, e.bound)))

pub returns-then-count-eq0-clause-end : goal.returns-then-count-eq0-clause-end
returns-then-count-eq0-clause-end g c =
    let s = c.self.inside in
    let r : ReaderState = record { feed = s.feed; table = s.table; path = s.path; shared = s.shared; stage = s.stage; place = s.place } in
    let live : is_live s.stage ≡ true = rw (← c.self.view_is) at c.requires in
    let at = c.self.invariant.3 (live_not_done s.stage live) in
    let e = c.in-Ok.ensures in
    let all : IsAllAhead c.look.new.self 0 = rw c.if-count-eq0.true at (e.all (omega (arith, c.if-count-eq0.true))) in
    let ended = next_end r c.look.new.self _ _ live at c.if-self-eq-LIMIT.false e.took e.offset all (omega (arith, e.bound)) in
    rw (← c.self.view_is) (λ z. ended)

pub returns-in-Ok-read_entry-clause-path : goal.returns-in-Ok-read_entry-clause-path
returns-in-Ok-read_entry-clause-path g c =
    let s = c.self.inside in
    let r : ReaderState = record { feed = s.feed; table = s.table; path = s.path; shared = s.shared; stage = s.stage; place = s.place } in
    let live : is_live s.stage ≡ true = rw (← c.self.view_is) at c.requires in
    let at = c.self.invariant.3 (live_not_done s.stage live) in
    let r' : ReaderState = record { feed = c.read_entry.new.feed; table = s.table; path = c.read_entry.new.path; shared = c.in-Ok-read_entry.shared; stage = stages.Live; place = c.offset-self-inside.result } in
    let found = next_found r r' c.look.new.self _ _ _ live at refl c.offset-self-inside.ensures.value refl c.in-Ok.ensures.took c.in-Ok-read_entry.ensures.entry in
    rw (← c.self.view_is) (λ z. found)

pub returns-in-Err-clause-err : goal.returns-in-Err-clause-err
returns-in-Err-clause-err g c =
    let s = c.self.inside in
    let r : ReaderState = record { feed = s.feed; table = s.table; path = s.path; shared = s.shared; stage = s.stage; place = s.place } in
    let live : is_live s.stage ≡ true = rw (← c.self.view_is) at c.requires in
    let at = c.self.invariant.3 (live_not_done s.stage live) in
    let r' : ReaderState = record { feed = c.read_entry.new.feed; table = s.table; path = c.read_entry.new.path; shared = s.shared; stage = stages.Done; place = s.place } in
    let look = c.in-Ok.ensures in
    rw (← c.self.view_is, c.fault_at.ensures) (next_err r r' c.look.new.self _ _ _ c.read_entry.new.path c.in-Err.cause live at look.took (omega (arith, look.held, c.if-count-eq0.false)) look.bound c.in-Err.ensures.entry)

pub returns-in-Ok-read_entry-clause-ahead : goal.returns-in-Ok-read_entry-clause-ahead
returns-in-Ok-read_entry-clause-ahead g c =
    let e = c.in-Ok-read_entry.ensures in
    let ahead = ahead_then _ _ _ _ _ _ _ _ _ c.in-Ok.ensures.drawn e.drawn e.held e.reach in
    rw (← c.self.view_is) ahead

pub returns-in-Err-clause-ahead : goal.returns-in-Err-clause-ahead
returns-in-Err-clause-ahead g c =
    let e = c.in-Err.ensures in
    let ahead = ahead_then _ _ _ _ _ _ _ _ _ c.in-Ok.ensures.drawn e.drawn e.held e.reach in
    rw (← c.self.view_is) ahead
