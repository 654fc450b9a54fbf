use Rattle.std.proofs.Common.{sym, ◌∙◌, arith}
use Rattle.std.proofs.lemmas.Bool.{eqb-true, eqb-false}
use Rattle.mount_table.proofs.DeviceLemmas.{decimal_number-nil, decimal_number-zero, decimal_number-digits}
use Rattle.mount_table.proofs.device.read_decimal.Goals as goal

pub returns-then-is_empty : goal.returns-then-is_empty
returns-then-is_empty c = sym (decimal_number-nil c.args.text.now (eqb-true _ _ (sym c.is_empty.ensures ∙ c.if-is_empty.true)))

pub returns-then-has_leading_zero : goal.returns-then-has_leading_zero
returns-then-has_leading_zero c = sym (decimal_number-zero c.args.text.now (sym c.has_leading_zero.ensures ∙ c.if-has_leading_zero.true))

pub returns : goal.returns
returns c =
    let not_nil = eqb-false _ _ (sym c.is_empty.ensures ∙ c.if-is_empty.false) in
    c.read_digits.ensures ∙ sym (decimal_number-digits c.args.text.now (omega (arith, not_nil)) (sym c.has_leading_zero.ensures ∙ c.if-has_leading_zero.false))
