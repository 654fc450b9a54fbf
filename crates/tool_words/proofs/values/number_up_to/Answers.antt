use Rattle.std.proofs.Common.{Some, ap, arith, rules, sym, ◌∙◌}
use Rattle.tool_words.proofs.NumberLemmas.{not_parsed, number_up_to-great, number_up_to-long, number_up_to-other, number_up_to-value, parsed}
use Rattle.tool_words.proofs.values.number_up_to.Goals as goal

pub returns-then-word-digits-clause-value : goal.returns-then-word-digits-clause-value
returns-then-word-digits-clause-value c = sym (number_up_to-long _ _ _ c.if-word-digits.true)

pub returns-then-not-is_digits-clause-value : goal.returns-then-not-is_digits-clause-value
returns-then-not-is_digits-clause-value c = sym (number_up_to-other _ _ _ (search rules))

pub returns-in_default-clause-value : goal.returns-in_default-clause-value
returns-in_default-clause-value c =
    sym (not_parsed c.args.word.now c.parse.result c.in_default.field-0 c.parse.ensures.value.0 (sym c.if-not-is_digits.ensures) c.in_default.is
    c.args.digits c.args.greatest (omega arith))

pub returns-then-number-greatest-clause-value : goal.returns-then-number-greatest-clause-value
returns-then-number-greatest-clause-value c =
    let read = parsed c.args.word.now c.parse.result c.in-Ok.number c.parse.ensures.value.0 (sym c.if-not-is_digits.ensures) c.in-Ok.is in
    sym (number_up_to-great c.args.digits c.args.greatest c.args.word.now (omega arith))

pub returns-clause-value : goal.returns-clause-value
returns-clause-value c =
    let read = parsed c.args.word.now c.parse.result c.in-Ok.number c.parse.ensures.value.0 (sym c.if-not-is_digits.ensures) c.in-Ok.is in
    ap Some read.1 ∙ sym (number_up_to-value c.args.digits c.args.greatest c.args.word.now read.0 (omega arith) (sym c.if-not-is_digits.ensures) (omega arith))
