use Rattle.std.proofs.Common.{inr, arith}
use Rattle.posix_regex.proofs.Reading.{AllStand-length, open-full, open-stands}
use Rattle.posix_regex.proofs.reader.Reader.open.Goals as goal

pub returns-then-len-eq-MAX_GROUPS : goal.returns-then-len-eq-MAX_GROUPS
returns-then-len-eq-MAX_GROUPS c = λ read h.
    inr (open-full c.args.place read (omega (arith, AllStand-length c.args.self.outer read.outer h.its_outer, c.len.ensures.value)))

pub returns-in-Ok : goal.returns-in-Ok
returns-in-Ok c = λ read h.
    open-stands c.args.place read c.at.result c.args.self.inner c.args.self.outer c.push_front.new.self (λ full. c.if-len-eq-MAX_GROUPS.false (omega (arith, full, AllStand-length c.args.self.outer read.outer h.its_outer, c.len.ensures.value))) c.at.ensures h.its_inner h.its_outer c.in-Ok.ensures.items
