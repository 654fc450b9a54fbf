use Rattle.std.proofs.Common.{◌≡◌, refl, true}
use Rattle.path_list.specs.declared.reader.Stage.TheVariants as stages
use Rattle.path_list.specs.Reader.{ReaderState, is_live}
use Rattle.path_list.proofs.ReaderSteps.{next_found, next_end, next_err, live_not_done}
use Rattle.path_list.proofs.reader.ReaderListPathStream.next_path.Goals as goal

pub returns-in-Ok-true-clause-path : goal.returns-in-Ok-true-clause-path
returns-in-Ok-true-clause-path g c _ =
    let s = c.self.inside in
    let r : ReaderState = record { feed = s.feed; mark = s.mark; path = s.path; stage = s.stage; place = s.place } in
    let live : is_live s.stage ≡ true = rw (← c.self.view_is) at c.requires in
    let at = c.self.invariant.1 (live_not_done s.stage live) in
    let n = c.read_path.new in
    let r' : ReaderState = record { feed = n.feed; mark = s.mark; path = n.path; stage = stages.Live; place = c.offset-self-inside.result } in
    let known = rw (c.byte.ensures, c.in-Ok-true.field-0-test) at c.in-Ok-true.ensures.path in
    let listed = rw (c.byte.ensures, c.in-Ok-true.field-0-test) at c.in-Ok-true.ensures.listed in
    rw (← c.self.view_is) (next_found r r' _ _ at c.offset-self-inside.ensures.value refl (listed refl) known)

pub returns-in-Ok-false-clause-end : goal.returns-in-Ok-false-clause-end
returns-in-Ok-false-clause-end g c _ =
    let s = c.self.inside in
    let r : ReaderState = record { feed = s.feed; mark = s.mark; path = s.path; stage = s.stage; place = s.place } in
    let live : is_live s.stage ≡ true = rw (← c.self.view_is) at c.requires in
    let at = c.self.invariant.1 (live_not_done s.stage live) in
    let known = rw (c.byte.ensures, c.in-Ok-false.field-0-test) at c.in-Ok-false.ensures.path in
    rw (← c.self.view_is) (next_end r c.read_path.new.path c.read_path.new.feed _ _ at known)

pub returns-in-Err-clause-err : goal.returns-in-Err-clause-err
returns-in-Err-clause-err g c =
    let s = c.self.inside in
    let r : ReaderState = record { feed = s.feed; mark = s.mark; path = s.path; stage = s.stage; place = s.place } in
    let live : is_live s.stage ≡ true = rw (← c.self.view_is) at c.requires in
    let at = c.self.invariant.1 (live_not_done s.stage live) in
    let known = rw c.byte.ensures at c.in-Err.ensures.path in
    rw (← c.self.view_is, c.fault_at.ensures) (next_err r c.read_path.new.path c.read_path.new.feed _ _ c.in-Err.cause at known)
