use Rattle.std.proofs.Common.{◌≡◌, ◌-◌, length, arith, rules}
use Rattle.std.proofs.lemmas.Bool.{false≢true}
use Rattle.glob_match.proofs.Walk.{ends_needed, ends_some}
use Rattle.glob_match.proofs.matching.ends_alike.Goals as goal

pub returns-then-is_empty-clause-needed : goal.returns-then-is_empty-clause-needed
returns-then-is_empty-clause-needed g c = λ m.
    let none : length c.args.text.now ≡ 0 = search rules in
    absurd (omega (arith, none, ends_some c.args.items.now c.args.text.now (c.len-len.result - 1) (omega arith) (λ e. false≢true (c.if-is_star.ensures.1 e)) m))

pub returns-clause-needed : goal.returns-clause-needed
returns-clause-needed g c =
    ends_needed c.args.items.now c.args.text.now (c.len-len.result - 1) c.takes.result (omega arith) (λ e. false≢true (c.if-is_star.ensures.1 e)) c.takes.ensures.value
