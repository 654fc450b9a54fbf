use Rattle.std.proofs.Common.{◌+◌, sym, ◌∙◌, ap, arith}
use Rattle.std.proofs.lemmas.List.{take_all}
use Rattle.std.specs.Char.{is_ascii_digit}
use Rattle.std.specs.List.{list_all}
use Rattle.std.specs.Str.Parse.{digits_value}
use Rattle.mount_table.proofs.DeviceLemmas.{digits_value-next, all_digits_next, digits_number-other, digits_number-large, digits_number-some}
use Rattle.mount_table.proofs.device.read_digits.Goals as goal

pub returns-then-not-is_ascii_digit : goal.returns-then-not-is_ascii_digit
returns-then-not-is_ascii_digit c =
    sym (digits_number-other c.loop-byte.byte-index c.args.digits.now c.loop-byte-test.true (sym c.is_ascii_digit.ensures.value ∙ c.if-not-is_ascii_digit.true))

pub returns-then-value-from : goal.returns-then-value-from
returns-then-value-from c =
    let next = digits_value-next c.loop-byte.byte-index c.args.digits.now c.loop-byte-test.true (sym c.if-not-is_ascii_digit.ensures.value) in
    sym (digits_number-large (c.loop-byte.byte-index + 1) c.args.digits.now (omega (arith, next, c.loop-byte.invariant.0, c.from.ensures, c.from-in-loop-byte.ensures, c.if-value-from.true)))

pub loop-byte-preserved : goal.loop-byte-preserved
loop-byte-preserved c =
    let is_digit = sym c.if-not-is_ascii_digit.ensures.value in
    let next = digits_value-next c.loop-byte.byte-index c.args.digits.now c.loop-byte-test.true is_digit in (
      omega (arith, next, c.loop-byte.invariant.0, c.from.ensures),
      omega (arith, c.from-in-loop-byte.ensures, c.if-value-from.false),
      all_digits_next c.loop-byte.byte-index c.args.digits.now c.loop-byte-test.true c.loop-byte.invariant.2 is_digit,
    )

pub returns : goal.returns
returns c =
    let all = take_all c.loop-byte.byte-index c.args.digits.now c.loop-byte-test.false in
    digits_number-some c.args.digits.now c.loop-byte.value (ap (list_all is_ascii_digit) (sym all) ∙ c.loop-byte.invariant.2) (c.loop-byte.invariant.0 ∙ ap (digits_value 10) all) c.loop-byte.invariant.1
