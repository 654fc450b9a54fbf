use Rattle.std.proofs.Common.{◌<◌, ◌≤◌, length, ⊎_elim, arith}
use Rattle.std.proofs.lemmas.Bool.{cases_lt, eqb-true, eq-eqb}
use Rattle.posix_regex.proofs.first.lacks_all.Goals as goal

pub returns-in-Some : goal.returns-in-Some
returns-in-Some c =
    let at = c.next_start.result in
    let text = c.args.text.now in
    let none = rw c.in-Some.is at c.next_start.ensures.none in
    let found = rw c.in-Some.is at c.next_start.ensures.found in
    rw c.in-Some.is (
      λ t. λ i within has. none i (omega arith) (omega (arith, eqb-true at (length text) t, within)) (within, has),
      λ lacks. ⊎_elim
          (λ (before : at < length text). let f = found before in absurd (lacks at f.0 f.1))
          (λ (last : length text ≤ at). eq-eqb at (length text) (omega (arith, last, c.next_start.ensures.within)))
          (cases_lt at (length text)),
    )
