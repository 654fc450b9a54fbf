use Rattle.std.proofs.Common.{◌≡◌, refl, ap}
use Rattle.locate02_db.specs.declared.reader.Stage.TheVariants as stages
use Rattle.locate02_db.specs.Reader.{ReaderState, is_done, is_fresh}
use Rattle.locate02_db.proofs.ReaderSteps.{fresh_stage, preamble_whole, preamble_moves, preamble_lacks, preamble_ends}
use Rattle.locate02_db.proofs.reader.Reader02PathStream.begin_paths.Goals as goal

pub returns-in-Ok-clause-preamble : goal.returns-in-Ok-clause-preamble
returns-in-Ok-clause-preamble g c =
    let s = c.self.inside in
    let r : ReaderState = record { feed = s.feed; path = s.path; shared = s.shared; stage = s.stage; place = s.place } in
    let stage : s.stage ≡ stages.Fresh = fresh_stage s.stage (rw (← c.self.view_is) at c.requires) in
    let inv = c.self.invariant in
    rw (← c.self.view_is) (preamble_whole r c.read_preamble.new.feed _ _ _ (inv.2 (ap is_done stage)) (inv.4 (ap is_fresh stage)) c.offset-self-inside.ensures.value c.in-Ok.ensures.preamble)

pub returns-in-Ok-clause-ok : goal.returns-in-Ok-clause-ok
returns-in-Ok-clause-ok g c =
    let s = c.self.inside in
    let r : ReaderState = record { feed = s.feed; path = s.path; shared = s.shared; stage = s.stage; place = s.place } in
    let r' : ReaderState = record { feed = c.read_preamble.new.feed; path = c.cut.new.self; shared = 0; stage = stages.Live; place = c.offset-self-inside.result } in
    let stage : s.stage ≡ stages.Fresh = fresh_stage s.stage (rw (← c.self.view_is) at c.requires) in
    let inv = c.self.invariant in
    rw (← c.self.view_is) (preamble_moves r r' _ _ stage (inv.2 (ap is_done stage)) refl c.cut.ensures refl c.offset-self-inside.ensures.value c.in-Ok.ensures.preamble)

pub returns-in-Err-clause-refused : goal.returns-in-Err-clause-refused
returns-in-Err-clause-refused g c =
    let s = c.self.inside in
    let r : ReaderState = record { feed = s.feed; path = s.path; shared = s.shared; stage = s.stage; place = s.place } in
    let stage : s.stage ≡ stages.Fresh = fresh_stage s.stage (rw (← c.self.view_is) at c.requires) in
    let inv = c.self.invariant in
    rw (← c.self.view_is, c.fault_at.ensures) (preamble_lacks r c.read_preamble.new.feed _ _ c.in-Err.cause (inv.2 (ap is_done stage)) c.in-Err.ensures.preamble)

pub returns-in-Err-clause-err : goal.returns-in-Err-clause-err
returns-in-Err-clause-err g c =
    let s = c.self.inside in
    let r : ReaderState = record { feed = s.feed; path = s.path; shared = s.shared; stage = s.stage; place = s.place } in
    let stage : s.stage ≡ stages.Fresh = fresh_stage s.stage (rw (← c.self.view_is) at c.requires) in
    let inv = c.self.invariant in
    rw (← c.self.view_is, c.fault_at.ensures) (preamble_ends r c.read_preamble.new.feed _ _ c.in-Err.cause stage (inv.2 (ap is_done stage)) (inv.4 (ap is_fresh stage)) c.in-Err.ensures.preamble)
