use Rattle.std.proofs.Common.{◌≡◌, ◌+◌, ◌*◌, ◌-◌, ◌≤◌, ℕ, List, length, take, true, Some, None, cond, get_or, sym, ◌∙◌, arith}
use Rattle.std.proofs.lemmas.Bool.{and_left, and_right}
use Rattle.std.specs.Int.{is_in_range}
use Rattle.mount_table.specs.Escape.{is_octal_digit, octal_byte}
use Rattle.mount_table.proofs.EscapeLemmas.{octal_byte-short, octal_byte-three, octal_byte-other, octal_byte-digits, none_outside, some_inside}
use Rattle.mount_table.proofs.escape.read_octal.Goals as goal
use Rattle.mount_table.proofs.escape.read_octal.Goals.{then-not-is_octal-via-then-not-is_octal, then-not-is_octal-via-else-not-is_octal+then-not-is_octal-2, then-not-is_octal-via-else-not-is_octal+else-not-is_octal-2+then-not-is_octal-3}

pub returns-in_default-clause-value : goal.returns-in_default-clause-value
returns-in_default-clause-value c = sym (octal_byte-short c.args.text.now c.in_default.len_below)

pub returns-then-not-is_octal-clause-value : goal.returns-then-not-is_octal-clause-value
returns-then-not-is_octal-clause-value c =
    let text = c.args.text.now in
    let three = octal_byte-three text c.in-len3-up.len_at_least in
    let high = get_or text 0 0 in
    let middle = get_or text 1 0 in
    let low = get_or text 2 0 in
    elim c.then-not-is_octal.branch [
      | then-not-is_octal-via-then-not-is_octal w ↦
          sym (three ∙ octal_byte-other high middle low (and_left _ _ (sym c.is_octal.ensures ∙ w.if-not-is_octal.true)))
      | then-not-is_octal-via-else-not-is_octal+then-not-is_octal-2 w ↦
          sym (three ∙ octal_byte-other high middle low (and_right (is_octal_digit high) _ (and_left _ _ (sym w.is_octal-else-not-is_octal.ensures ∙ w.if-not-is_octal-2.true))))
      | then-not-is_octal-via-else-not-is_octal+else-not-is_octal-2+then-not-is_octal-3 w ↦
          sym (three ∙ octal_byte-other high middle low (and_right (is_octal_digit high) _ (and_right (is_octal_digit middle) _ (and_left _ _ (sym w.is_octal-else-not-is_octal-2.ensures ∙ w.if-not-is_octal-3.true)))))
    ]

-- three digits, and their value
value_is : (text : List ℕ) (value : ℕ) → 3 ≤ length text → is_octal_digit (get_or text 0 0) ≡ true → is_octal_digit (get_or text 1 0) ≡ true → is_octal_digit (get_or text 2 0) ≡ true → value ≡ (get_or text 0 0 - 48) * 64 + (get_or text 1 0 - 48) * 8 + (get_or text 2 0 - 48) → octal_byte (take 3 text) ≡ cond (is_in_range 1 255 value) (Some value) None
value_is text value long e f g is = octal_byte-three text long ∙ octal_byte-digits _ _ _ value e f g is

pub returns-then-value-eq0-clause-value : goal.returns-then-value-eq0-clause-value
returns-then-value-eq0-clause-value c =
    sym
    (value_is c.args.text.now (c.from.result * 64 + c.from-2.result * 8 + c.from-3.result) c.in-len3-up.len_at_least (sym c.if-not-is_octal.ensures) (sym c.if-not-is_octal-2.ensures) (sym c.if-not-is_octal-3.ensures) (omega (arith, c.from.ensures, c.from-2.ensures, c.from-3.ensures))
    ∙ none_outside _ c.then-value-eq0.either)

pub returns-clause-value : goal.returns-clause-value
returns-clause-value c =
    sym
    (value_is c.args.text.now (c.from.result * 64 + c.from-2.result * 8 + c.from-3.result) c.in-len3-up.len_at_least (sym c.if-not-is_octal.ensures) (sym c.if-not-is_octal-2.ensures) (sym c.if-not-is_octal-3.ensures) (omega (arith, c.from.ensures, c.from-2.ensures, c.from-3.ensures))
    ∙ some_inside _ (omega (arith, c.if-value-eq0.false)) c.if-value-gt255.false)
