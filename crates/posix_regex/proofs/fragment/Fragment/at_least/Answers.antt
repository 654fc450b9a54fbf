use Rattle.std.proofs.Common.{◌≡◌, ◌+◌, ◌*◌, min, max, arith, rules}
use Rattle.posix_regex.proofs.Fragments.{at_least_sized}
use Rattle.posix_regex.proofs.fragment.Fragment.at_least.Goals as goal

pub returns-then-size-gt-MAX_SIZE : goal.returns-then-size-gt-MAX_SIZE
returns-then-size-gt-MAX_SIZE c = λ a ha.
    let n : c.max.result ≡ max c.args.least 1 = search rules in
    let e : c.cut-size.result ≡ min (min (max c.args.least 1 * (c.args.self.size + 1)) 4097 + 1) 4097 = rw (c.repeated.ensures, n) at c.cut-size.ensures in
    at_least_sized c.args.self.size c.cut-size.result c.args.least c.args.self.states c.args.self.states a ha e (λ small. absurd (omega arith))

pub returns : goal.returns
returns c = λ a ha.
    let n : c.max.result ≡ max c.args.least 1 = search rules in
    let e : c.cut-size.result ≡ min (min (max c.args.least 1 * (c.args.self.size + 1)) 4097 + 1) 4097 = rw (c.repeated.ensures, n) at c.cut-size.ensures in
    at_least_sized c.args.self.size c.cut-size.result c.args.least c.args.self.states c.in_ok-states.states a ha e (λ _. c.in_ok-states.ensures)
