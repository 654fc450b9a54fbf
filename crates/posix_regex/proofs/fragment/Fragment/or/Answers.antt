use Rattle.std.proofs.Common.{arith}
use Rattle.posix_regex.proofs.Fragments.{or_sized}
use Rattle.posix_regex.proofs.fragment.Fragment.or.Goals as goal

pub returns-then-size-gt-MAX_SIZE : goal.returns-then-size-gt-MAX_SIZE
returns-then-size-gt-MAX_SIZE c = λ a b ha hb.
    or_sized c.args.self.size c.args.other.size c.cut-size.result c.args.self.states c.args.other.states c.args.self.states a b ha hb c.cut-size.ensures (λ small. absurd (omega arith))

pub returns : goal.returns
returns c = λ a b ha hb.
    or_sized c.args.self.size c.args.other.size c.cut-size.result c.args.self.states c.args.other.states c.in_ok-states.states a b ha hb c.cut-size.ensures (λ _. c.in_ok-states.ensures)
