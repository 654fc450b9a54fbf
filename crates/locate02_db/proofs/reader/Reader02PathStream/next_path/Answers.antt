use Rattle.std.proofs.Common.{◌≡◌, refl, ap, arith}
use Rattle.byte_feed.proofs.AheadReads.{ahead_then}
use Rattle.locate02_db.specs.declared.reader.Stage.TheVariants as stages
use Rattle.locate02_db.specs.Reader.{ReaderState, is_done, is_live}
use Rattle.locate02_db.proofs.ReaderSteps.{live_stage, entry_found, entry_broken, ended_whole, ended_large, ended_fault, replaced_path}
use Rattle.locate02_db.proofs.reader.Reader02PathStream.next_path.Goals as goal

pub returns-in-Ok-None-clause-end : goal.returns-in-Ok-None-clause-end
returns-in-Ok-None-clause-end g c _ =
    let s = c.self.inside in
    let r : ReaderState = record { feed = s.feed; path = s.path; shared = s.shared; stage = s.stage; place = s.place } in
    let stage : s.stage ≡ stages.Live = live_stage s.stage (rw (← c.self.view_is) at c.requires) in
    let e = c.in-Ok-None.ensures in
    let took = rw c.in-Ok-None.field-0-is at e.took in
    let none = (rw c.in-Ok-None.field-0-is at e.none) refl in
    rw (← c.self.view_is) (ended_whole r c.next.new.self _ _ stage took none.0 none.1 e.below)

pub returns-in-Err-ReadFault-clause-err : goal.returns-in-Err-ReadFault-clause-err
returns-in-Err-ReadFault-clause-err g c =
    let s = c.self.inside in
    let r : ReaderState = record { feed = s.feed; path = s.path; shared = s.shared; stage = s.stage; place = s.place } in
    let stage : s.stage ≡ stages.Live = live_stage s.stage (rw (← c.self.view_is) at c.requires) in
    let at = c.self.invariant.2 (ap is_done stage) in
    let e = c.in-Err-ReadFault.ensures in
    let held = rw e.refused at e.empty in
    let going = rw e.refused at ((rw c.in-Err-ReadFault.field-0-is at e.goes_on) refl) in
    rw (← c.self.view_is) (ended_fault r _ _ stage at e.left held going)

pub returns-in-Err-TooLarge-clause-err : goal.returns-in-Err-TooLarge-clause-err
returns-in-Err-TooLarge-clause-err g c =
    let s = c.self.inside in
    let r : ReaderState = record { feed = s.feed; path = s.path; shared = s.shared; stage = s.stage; place = s.place } in
    let stage : s.stage ≡ stages.Live = live_stage s.stage (rw (← c.self.view_is) at c.requires) in
    let e = c.in-Err-TooLarge.ensures in
    rw (← c.self.view_is) (ended_large r _ _ stage e.left ((rw c.in-Err-TooLarge.field-0-is at e.large) refl))

pub invariant_of-self-in-Ok : goal.invariant_of-self-in-Ok
invariant_of-self-in-Ok g c =
    let s = c.self.inside in
    let stage : s.stage ≡ stages.Live = live_stage s.stage (rw (← c.self.view_is) at c.requires) in
    let path = replaced_path s.shared s.path c.in-Ok.prefix c.read_entry.new.path (c.self.invariant.3 (ap is_live stage)) c.in-Ok.ensures.path in
    (c.in-Ok.ensures.path.fits, omega (arith, c.offset-self-inside.ensures.bound), λ _. c.offset-self-inside.ensures.value, λ _. path.plain, λ e. absurd cc)

pub returns-in-Ok-clause-path : goal.returns-in-Ok-clause-path
returns-in-Ok-clause-path g c _ =
    let s = c.self.inside in
    let r : ReaderState = record { feed = s.feed; path = s.path; shared = s.shared; stage = s.stage; place = s.place } in
    let stage : s.stage ≡ stages.Live = live_stage s.stage (rw (← c.self.view_is) at c.requires) in
    let at = c.self.invariant.2 (ap is_done stage) in
    let n = c.read_entry.new in
    let r' : ReaderState = record { feed = n.feed; path = n.path; shared = c.in-Ok.prefix.shared; stage = stages.Live; place = c.offset-self-inside.result } in
    let took = rw c.in-Ok-Some.field-0-is at c.in-Ok-Some.ensures.took in
    rw (← c.self.view_is) (entry_found r r' c.next.new.self _ _ _ c.in-Ok-Some.first c.in-Ok.prefix stage at refl refl c.offset-self-inside.ensures.value c.in-Ok.ensures.path took c.in-Ok.ensures.entry)

pub returns-in-Ok-clause-found : goal.returns-in-Ok-clause-found
returns-in-Ok-clause-found g c _ =
    let s = c.self.inside in
    let stage : s.stage ≡ stages.Live = live_stage s.stage (rw (← c.self.view_is) at c.requires) in
    record {
      text = replaced_path s.shared s.path c.in-Ok.prefix c.read_entry.new.path (c.self.invariant.3 (ap is_live stage)) c.in-Ok.ensures.path;
      dir = omega arith;
      at = (refl, refl);
    }

pub returns-in-Err-clause-err : goal.returns-in-Err-clause-err
returns-in-Err-clause-err g c =
    let s = c.self.inside in
    let r : ReaderState = record { feed = s.feed; path = s.path; shared = s.shared; stage = s.stage; place = s.place } in
    let stage : s.stage ≡ stages.Live = live_stage s.stage (rw (← c.self.view_is) at c.requires) in
    let at = c.self.invariant.2 (ap is_done stage) in
    let took = rw c.in-Ok-Some.field-0-is at c.in-Ok-Some.ensures.took in
    rw (← c.self.view_is, c.fault_at.ensures) (entry_broken r c.read_entry.new.path c.next.new.self _ _ _ _ c.in-Ok-Some.first c.in-Err.cause stage at took c.in-Err.ensures.entry)

pub returns-in-Ok-clause-ahead : goal.returns-in-Ok-clause-ahead
returns-in-Ok-clause-ahead g c =
    let e = c.in-Ok.ensures in
    let ahead = ahead_then _ _ _ _ _ _ _ _ _ c.in-Ok-Some.ensures.drawn e.drawn e.held e.reach in
    rw (← c.self.view_is) ahead

pub returns-in-Err-clause-ahead : goal.returns-in-Err-clause-ahead
returns-in-Err-clause-ahead g c =
    let e = c.in-Err.ensures in
    let ahead = ahead_then _ _ _ _ _ _ _ _ _ c.in-Ok-Some.ensures.drawn e.drawn e.held e.reach in
    rw (← c.self.view_is) ahead
