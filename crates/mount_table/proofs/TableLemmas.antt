-- The rows of a text, line after line.
use Rattle.std.proofs.Common.{◌≡◌, ◌≢◌, ℕ, ◌+◌, ◌≤◌, List, [], ◌∷◌, ◌++◌, length, drop, refl, sym, ◌∙◌, ap, arith, append_assoc, Bool, true, false, cond, Some, None, Ok, Err, Option, Result, inl, inr}
use Rattle.std.proofs.lemmas.Bool.{cases_lt}
use Rattle.std.proofs.lemmas.List.{take_all, drop_all, length-take-le}
use Rattle.std.proofs.lemmas.List.Splits.{slice_split_none, slice_split_first}
use Rattle.std.proofs.lemmas.List.Sums.{fails_before_first, prefix_len-le-length}
use Rattle.std.specs.List.{filter, filter_map, slice_split, enumerate_from, position_or_len, before_first, after_first}
use Rattle.std.specs.Prelude.{not, nat_lt}
use Rattle.std.specs.Result.{result_ok}
use Rattle.path_order.specs.Path.{begins_at_root}
use Rattle.mount_table.specs.declared.fault.MountCause.{MountCause}
use Rattle.mount_table.specs.declared.fault.MountCause.TheVariants.{LongText, FewFields, BadPath}
use Rattle.mount_table.specs.declared.fault.MountFault.{MountFault}
use Rattle.mount_table.specs.Device.{device_numbers}
use Rattle.mount_table.specs.Escape.{unescaped}
use Rattle.mount_table.specs.Line.{is_not_empty, is_newline, fields, numbered_lines}
use Rattle.mount_table.specs.Part.{one_row, with_rows, rows_of_line}
use Rattle.mount_table.specs.Row.{MountRow, row_of, row_of_fields, row_or_cause, kind_field, nth_field}
use Rattle.mount_table.specs.Table.{fault_of, rows_or_fault, mounts_of_lines, mounts_of}

-- a line before the lines that follow it, where it is not empty
abbrev pub with_line : ℕ → List ℕ → List (ℕ × List ℕ) → List (ℕ × List ℕ)
with_line number [] lines = lines
with_line number (x ∷ line) lines = (number, x ∷ line) ∷ lines

-- the first of the parts
first_part : (number : ℕ) (line : List ℕ) (parts : List (List ℕ)) → filter (λ l. is_not_empty l.1) (enumerate_from number (line ∷ parts)) ≡ with_line number line (filter (λ l. is_not_empty l.1) (enumerate_from (number + 1) parts))
first_part number [] parts = refl
first_part number (x ∷ line) parts = refl

nothing_left : (number : ℕ) → numbered_lines number [] ≡ []
unfolding numbered_lines
nothing_left number = refl

-- the first line of a text, and the lines after it
pub numbered_lines-first : (number : ℕ) (text line : List ℕ) → line ≡ before_first is_newline text → numbered_lines number text ≡ with_line number line (numbered_lines (number + 1) (drop (length line + 1) text))
unfolding numbered_lines
numbered_lines-first number text line is =
    let place = position_or_len is_newline text in
    let most : place ≤ length text = prefix_len-le-length (λ b. not (is_newline b)) text in
    let len : length line ≡ place = ap length is ∙ length-take-le place text most in
    elim (cases_lt place (length text)) [
      | inl within ↦
          ap (λ (parts : List (List ℕ)). filter (λ l. is_not_empty l.1) (enumerate_from number parts)) (slice_split_first is_newline text 0 within)
          ∙ first_part number (before_first is_newline text) (slice_split is_newline (after_first is_newline text))
          ∙ (λ i. with_line number (sym is i) (numbered_lines (number + 1) (drop (sym len i + 1) text)))
      | inr past ↦
          let all : line ≡ text = is ∙ take_all place text past in
          ap (λ (parts : List (List ℕ)). filter (λ l. is_not_empty l.1) (enumerate_from number parts)) (slice_split_none is_newline text (λ k d h. fails_before_first is_newline text k d (omega arith)))
          ∙ first_part number text []
          ∙ (λ i. with_line number (sym all i) (sym (ap (numbered_lines (number + 1)) (drop_all (length line + 1) text (omega arith)) ∙ nothing_left (number + 1)) i))
    ]

-- the fault of a line by its number
abbrev pub record_fault : ℕ → MountCause → MountFault
record_fault number cause = record { line = number; cause = cause }

-- what a line and the lines after it make
abbrev pub after_line : ℕ → Result (List MountRow) MountCause → Result (List MountRow) MountFault → Result (List MountRow) MountFault
after_line number (Ok rows) more = with_rows rows more
after_line number (Err cause) more = Err (record_fault number cause)

-- no rows change nothing
no_rows : (more : Result (List MountRow) MountFault) → more ≡ with_rows [] more
no_rows (Ok rows) = refl
no_rows (Err fault) = refl

-- a row before the rows of other lines
row_before : (row : MountRow) (faults : List MountFault) (rows : List MountRow) → rows_or_fault faults (row ∷ rows) ≡ with_rows (row ∷ []) (rows_or_fault faults rows)
row_before row [] rows = refl
row_before row (fault ∷ faults) rows = refl

-- a line that is not empty
by_row : (number : ℕ) (line : List ℕ) (lines : List (ℕ × List ℕ)) (r : Result MountRow MountCause) → row_of line ≡ r → mounts_of_lines ((number, line) ∷ lines) ≡ after_line number (one_row r) (mounts_of_lines lines)
unfolding mounts_of_lines
by_row number line lines (Ok row) e = rw e (row_before row (filter_map fault_of lines) (filter_map (λ l. result_ok (row_of l.1)) lines))
by_row number line lines (Err cause) e = rw e refl

-- the rows of a line and of the lines after it
pub mounts_of_lines-first : (number : ℕ) (line : List ℕ) (lines : List (ℕ × List ℕ)) → mounts_of_lines (with_line number line lines) ≡ after_line number (rows_of_line line) (mounts_of_lines lines)
mounts_of_lines-first number [] lines = no_rows (mounts_of_lines lines)
mounts_of_lines-first number (x ∷ line) lines = by_row number (x ∷ line) lines (row_of (x ∷ line)) refl

-- the rows from a line on
abbrev pub mounts_from : ℕ → List ℕ → Result (List MountRow) MountFault
mounts_from number text = mounts_of_lines (numbered_lines number text)

pub mounts_from-first : (number : ℕ) (text line : List ℕ) → line ≡ before_first is_newline text → mounts_from number text ≡ after_line number (rows_of_line line) (mounts_from (number + 1) (drop (length line + 1) text))
mounts_from-first number text line is =
    ap mounts_of_lines (numbered_lines-first number text line is) ∙ mounts_of_lines-first number line (numbered_lines (number + 1) (drop (length line + 1) text))

pub mounts_from-nil : (number : ℕ) → mounts_from number [] ≡ Ok []
unfolding mounts_of_lines
mounts_from-nil number = ap mounts_of_lines (nothing_left number)

-- before any line
pub mounts_from-start : (text : List ℕ) → mounts_of text ≡ with_rows [] (mounts_from 1 text)
mounts_from-start text = no_rows (mounts_of text)

-- the rows of one more line
pub rows_pushed : (old new : List MountRow) (number : ℕ) (r : Result (List MountRow) MountCause) (more : Result (List MountRow) MountFault) → with_rows old r ≡ Ok new → with_rows old (after_line number r more) ≡ with_rows new more
rows_pushed old new number (Err cause) more e = cc
rows_pushed old new number (Ok rows) (Err fault) e = refl
rows_pushed old new number (Ok rows) (Ok others) e =
    let is : old ++ rows ≡ new = cc in
    ap Ok (sym (append_assoc old rows others) ∙ ap (λ (l : List MountRow). l ++ others) is)

-- no rule is that of a text that is too long
not_long : (b : Bool) (row : MountRow) → cond b (Ok row) (Err BadPath) ≢ Err LongText
not_long true row e = cc
not_long false row e = cc

no_long_row : (kind : Option (List ℕ)) (device : Option (ℕ × ℕ)) (root point : Option (List ℕ)) → row_or_cause kind device root point ≢ Err LongText
no_long_row None device root point e = cc
no_long_row (Some kind) None root point e = cc
no_long_row (Some kind) (Some device) None point e = cc
no_long_row (Some kind) (Some device) (Some root) None e = cc
no_long_row (Some kind) (Some device) (Some root) (Some point) e = not_long (begins_at_root point) _ e

no_long_fields : (b : Bool) (r : Result MountRow MountCause) → r ≢ Err LongText → cond b (Err FewFields) r ≢ Err LongText
no_long_fields true r other e = cc
no_long_fields false r other e = other e

no_long_line : (line : List ℕ) → row_of line ≢ Err LongText
unfolding row_of_fields
no_long_line line =
    let kind = kind_field (fields line) in
    let device = device_numbers (nth_field (fields line) 3) in
    let root = unescaped (nth_field (fields line) 4) in
    let point = unescaped (nth_field (fields line) 5) in
    no_long_fields (nat_lt (length (fields line)) 6) (row_or_cause kind device root point) (no_long_row kind device root point)

-- a fault after a row is one of the lines that follow
fault_after : (row : MountRow) (more : Result (List MountRow) MountFault) (fault : MountFault) → with_rows (row ∷ []) more ≡ Err fault → more ≡ Err fault
fault_after row (Ok rows) fault e = cc
fault_after row (Err other) fault e = e

-- nor is that of a line, where none after it is
no_long_first : (number : ℕ) (line : List ℕ) (lines : List (ℕ × List ℕ)) (fault : MountFault) (r : Result MountRow MountCause) → row_of line ≡ r → mounts_of_lines ((number, line) ∷ lines) ≡ Err fault → (mounts_of_lines lines ≡ Err fault → fault.cause ≢ LongText) → fault.cause ≢ LongText
no_long_first number line lines fault (Ok row) is e after long = after (fault_after row (mounts_of_lines lines) fault (sym (by_row number line lines (Ok row) is) ∙ e)) long
no_long_first number line lines fault (Err cause) is e after long =
    let same : after_line number (one_row (Err cause)) (mounts_of_lines lines) ≡ Err fault = sym (by_row number line lines (Err cause) is) ∙ e in
    let made : record_fault number cause ≡ fault = cc in
    no_long_line line (is ∙ ap Err (ap (λ (f : MountFault). f.cause) made ∙ long))

-- no fault is that of a text that is too long
pub no_long_fault : (lines : List (ℕ × List ℕ)) (fault : MountFault) → mounts_of_lines lines ≡ Err fault → fault.cause ≢ LongText
unfolding mounts_of_lines
no_long_fault [] fault e = cc
no_long_fault ((number, line) ∷ lines) fault e = no_long_first number line lines fault (row_of line) refl e (no_long_fault lines fault)
