use Rattle.std.proofs.Common.{◌-◌, length, drop, arith}
use Rattle.std.proofs.lemmas.List.{length-take-le, length-drop}
use Rattle.posix_regex.specs.Leaving.{leaves}
use Rattle.posix_regex.proofs.Leavings.{none_in_part}
use Rattle.posix_regex.proofs.leaving.Leaving.find_from.Goals as goal

pub returns-in-None-clause-none : goal.returns-in-None-clause-none
returns-in-None-clause-none c = λ k low high.
    let n = length c.args.text.now - c.args.from in
    none_in_part (leaves c.args.self) c.args.text.now c.args.from n _ (omega arith) (c.in-None.ensures) k low
    (omega (arith, high, length-take-le n (drop c.args.from c.args.text.now), length-drop c.args.from c.args.text.now))

pub returns-in-Some-clause-none : goal.returns-in-Some-clause-none
returns-in-Some-clause-none c = λ k low high.
    let n = length c.args.text.now - c.args.from in
    let h = (c.in-Some.ensures).0 in
    none_in_part (leaves c.args.self) c.args.text.now c.args.from n c.in-Some.place (omega (arith, h.high)) h.before k low high
