use Rattle.std.proofs.Common.{◌≡◌, ℕ, List, true, ap}
use Rattle.bigram_db.specs.declared.reader.Stage.TheVariants as stages
use Rattle.bigram_db.specs.Items.{State, After}
use Rattle.bigram_db.specs.Reader.{ReaderState, is_fresh}
use Rattle.bigram_db.proofs.ReaderSteps.{preamble_moves, preamble_whole, preamble_lacks, preamble_ends, fresh_not_done}
use Rattle.bigram_db.proofs.reader.ReaderBigramPathStream.begin_paths.Goals as goal

pub returns-in-Ok-clause-preamble : goal.returns-in-Ok-clause-preamble
returns-in-Ok-clause-preamble g c =
    let s = c.self.inside in
    let r : ReaderState = record { feed = s.feed; table = s.table; path = s.path; shared = s.shared; stage = s.stage; place = s.place } in
    let fresh : is_fresh s.stage ≡ true = rw (← c.self.view_is) at c.requires in
    let at = c.self.invariant.3 (fresh_not_done s.stage fresh) in
    let none = c.self.invariant.4 fresh in
    let r' : ReaderState = record { feed = c.read_table.new.feed; table = c.in-Ok.table; path = c.cut.new.self; shared = 0; stage = stages.Live; place = c.offset-self-inside.result } in
    rw (← c.self.view_is) (preamble_whole r r' _ _ c.in-Ok.table at none c.offset-self-inside.ensures.value c.in-Ok.ensures.table)

pub returns-in-Ok-clause-ok : goal.returns-in-Ok-clause-ok
returns-in-Ok-clause-ok g c =
    let s = c.self.inside in
    let r : ReaderState = record { feed = s.feed; table = s.table; path = s.path; shared = s.shared; stage = s.stage; place = s.place } in
    let fresh : is_fresh s.stage ≡ true = rw (← c.self.view_is) at c.requires in
    let at = c.self.invariant.3 (fresh_not_done s.stage fresh) in
    let r' : ReaderState = record { feed = c.read_table.new.feed; table = c.in-Ok.table; path = c.cut.new.self; shared = 0; stage = stages.Live; place = c.offset-self-inside.result } in
    let state : List ℕ → State = λ path. After c.in-Ok.table path 0 in
    rw (← c.self.view_is) (preamble_moves r r' _ _ c.in-Ok.table fresh at (ap state c.cut.ensures) c.offset-self-inside.ensures.value c.in-Ok.ensures.table)

pub returns-in-Err-clause-refused : goal.returns-in-Err-clause-refused
returns-in-Err-clause-refused g c =
    let s = c.self.inside in
    let r : ReaderState = record { feed = s.feed; table = s.table; path = s.path; shared = s.shared; stage = s.stage; place = s.place } in
    let fresh : is_fresh s.stage ≡ true = rw (← c.self.view_is) at c.requires in
    let at = c.self.invariant.3 (fresh_not_done s.stage fresh) in
    let r' : ReaderState = record { feed = c.read_table.new.feed; table = s.table; path = s.path; shared = s.shared; stage = stages.Done; place = s.place } in
    rw (← c.self.view_is, c.fault_at.ensures) (preamble_lacks r r' _ _ c.in-Err.cause at c.in-Err.ensures.table)

pub returns-in-Err-clause-err : goal.returns-in-Err-clause-err
returns-in-Err-clause-err g c =
    let s = c.self.inside in
    let r : ReaderState = record { feed = s.feed; table = s.table; path = s.path; shared = s.shared; stage = s.stage; place = s.place } in
    let fresh : is_fresh s.stage ≡ true = rw (← c.self.view_is) at c.requires in
    let at = c.self.invariant.3 (fresh_not_done s.stage fresh) in
    let none = c.self.invariant.4 fresh in
    let r' : ReaderState = record { feed = c.read_table.new.feed; table = s.table; path = s.path; shared = s.shared; stage = stages.Done; place = s.place } in
    rw (← c.self.view_is, c.fault_at.ensures) (preamble_ends r r' _ _ c.in-Err.cause fresh at none c.in-Err.ensures.table)
