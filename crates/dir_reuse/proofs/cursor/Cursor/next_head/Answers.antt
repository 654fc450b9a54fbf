use Rattle.std.proofs.Common.{◌≡◌}
use Rattle.dir_reuse.specs.declared.seeking.Sought.TheVariants as sought
use Rattle.dir_reuse.proofs.Keeping.{stays, stays_broken}
use Rattle.dir_reuse.proofs.cursor.Cursor.next_head.Goals as goal

pub returns-in-Here-clause-stays : goal.returns-in-Here-clause-stays
returns-in-Here-clause-stays g c =
    stays c.args.self.now c.go_on.new.self _ _ (λ shut. absurd (let z : sought.Here ≡ sought.End = c.in-Here.ensures.closed shut in cc)) c.in-Here.ensures.came

pub returns-in-Later-clause-stays : goal.returns-in-Later-clause-stays
returns-in-Later-clause-stays g c =
    stays c.args.self.now c.go_on.new.self _ _ (λ shut. absurd (let z : sought.Later ≡ sought.End = c.in-Later.ensures.closed shut in cc)) c.in-Later.ensures.came

pub returns-in-End-clause-stays : goal.returns-in-End-clause-stays
returns-in-End-clause-stays g c = stays c.args.self.now c.go_on.new.self _ _ (λ shut. c.in-End.ensures.shows) c.in-End.ensures.came

pub returns-in-Fault-clause-stays : goal.returns-in-Fault-clause-stays
returns-in-Fault-clause-stays g c = stays_broken c.args.self.now c.go_on.new.self _ _ c.in-Fault.ensures.unbroken
