use Rattle.std.proofs.Common.{◌≡◌, ◌-◌, cond, length, take, drop, None, rules}
use Rattle.glob_match.specs.Bracket.{is_complement, parts_first}
use Rattle.glob_match.proofs.BracketParts.{bracket-none, bracket-some, rest_is}
use Rattle.glob_match.proofs.bracket.read_bracket.Goals as goal

pub returns-in_default-clause-value : goal.returns-in_default-clause-value
returns-in_default-clause-value c =
    let text = c.args.text.now in
    let mark = c.from-mark.result in
    let e : mark ≡ cond (is_complement text) 1 0 = search rules in
    let none : parts_first (take (length text - mark) (drop mark text)) ≡ None = search rules in
    bracket-none c.args.fold text mark e (rw rest_is at none)

pub returns-clause-value : goal.returns-clause-value
returns-clause-value c =
    let text = c.args.text.now in
    let mark = c.from-mark.result in
    let e : mark ≡ cond (is_complement text) 1 0 = search rules in
    bracket-some c.args.fold text mark c.in-Some.taken c.in-Some.set c.closed.result e (rw (rest_is text mark) at c.in-Some.ensures.some) (rw c.is_complement-complement.ensures.value at c.closed.ensures)
