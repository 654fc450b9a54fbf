use Rattle.std.proofs.Common.{inr, inl, ⊎_elim, arith}
use Rattle.posix_regex.specs.Pattern.{expression_at}
use Rattle.posix_regex.proofs.Whole.{expression_at-fault, expression_at-big, expression_at-some, few_items}
use Rattle.posix_regex.proofs.regex.Regex.read.Goals as goal

pub returns-in-Err-clause-value : goal.returns-in-Err-clause-value
returns-in-Err-clause-value c =
    ⊎_elim (λ e. inl e) (λ e. inr (expression_at-fault c.args.extended c.args.fold c.args.pattern.now c.in-Err.fault e)) c.in-Err.ensures

pub returns-then-whole-gt-MAX_SIZE-clause-value : goal.returns-then-whole-gt-MAX_SIZE-clause-value
returns-then-whole-gt-MAX_SIZE-clause-value c =
    inr (expression_at-big c.args.extended c.args.fold c.args.pattern.now c.in-Ok.whole.size c.in-Ok.whole.states (omega arith) c.in-Ok.ensures)

pub returns-in-Ok-with_sets-clause-value : goal.returns-in-Ok-with_sets-clause-value
returns-in-Ok-with_sets-clause-value c =
    rw c.in-Ok-with_sets.ensures.items (expression_at-some c.args.extended c.args.fold c.args.pattern.now c.in-Ok.whole.size c.in-Ok.whole.states (omega arith) c.in-Ok.ensures)

pub returns-in-Ok-with_sets-clause-bound : goal.returns-in-Ok-with_sets-clause-bound
returns-in-Ok-with_sets-clause-bound c =
    rw c.in-Ok-with_sets.ensures.items (few_items (expression_at c.args.extended c.args.fold c.args.pattern.now) c.in-Ok.whole.states (expression_at-some c.args.extended c.args.fold c.args.pattern.now c.in-Ok.whole.size c.in-Ok.whole.states (omega arith) c.in-Ok.ensures))
