use Rattle.std.proofs.Common.{◌≡◌, ℕ, ◌+◌, ◌*◌, ◌≤◌, length, subst, arith}
use Rattle.locate_tools.specs.Regexes.{RegexAsked, found_in, steps_of, items_read, reading}
use Rattle.locate_tools.proofs.Expressions.{found_is, items_is}
use Rattle.locate_tools.proofs.regexes.ReadRegex.matches.Goals as goal

pub returns-clause-value : goal.returns-clause-value
returns-clause-value g c =
    subst (λ (a : RegexAsked). c.matches.result ≡ found_in c.args.text.now a) c.self.view_is
    (found_is _ c.args.text.now c.self.inside.regex.items c.matches.result c.self.invariant c.matches.ensures.decided)

pub returns-clause-within : goal.returns-clause-within
returns-clause-within g c =
    subst (λ (a : RegexAsked). c.matches.new.steps ≤ c.args.steps.now + steps_of c.args.text.now a) c.self.view_is
    (subst (λ (n : ℕ). c.matches.new.steps ≤ c.args.steps.now + (n + 1) * (length c.args.text.now + 1)) (items_is _ c.self.inside.regex.items c.self.invariant) c.matches.ensures.bound)
