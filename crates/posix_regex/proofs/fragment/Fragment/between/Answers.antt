use Rattle.std.proofs.Common.{arith}
use Rattle.posix_regex.proofs.Fragments.{between_sized}
use Rattle.posix_regex.proofs.fragment.Fragment.between.Goals as goal

pub returns-then-size-gt-MAX_SIZE : goal.returns-then-size-gt-MAX_SIZE
returns-then-size-gt-MAX_SIZE c = λ a ha.
    between_sized c.args.self.size c.repeated-size.result c.args.least c.args.more c.args.self.states c.args.self.states a ha (rw c.sum.ensures at c.repeated-size.ensures) (λ small. absurd (omega arith))

pub returns : goal.returns
returns c = λ a ha.
    between_sized c.args.self.size c.repeated-size.result c.args.least c.args.more c.args.self.states c.in_ok-states.states a ha (rw c.sum.ensures at c.repeated-size.ensures) (λ _. c.in_ok-states.ensures)
