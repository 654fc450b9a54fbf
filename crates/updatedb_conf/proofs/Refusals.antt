-- No line is refused as too long a text.
use Rattle.std.proofs.Common.{◌≡◌, ◌≢◌, ℕ, ◌+◌, Bool, true, false, cond, List, [], ◌∷◌, drop, Option, Some, None, is_some, Result, Ok, Err, IfErr, refl, ap, sym, subst, ◌∙◌, nat_eq}
use Rattle.std.specs.Option.{ok_or}
use Rattle.std.specs.List.{position, position_or_len, before_first, after_first}
use Rattle.updatedb_conf.specs.declared.fault.ConfCause.{ConfCause}
use Rattle.updatedb_conf.specs.declared.fault.ConfCause.TheVariants.{NoEquals, NoQuote, Unclosed, Trailing, Unknown, Repeated, BadFlag, BadName, OutOfMemory, LongText, BadMargin}
use Rattle.updatedb_conf.specs.declared.fault.ConfFault.{ConfFault}
use Rattle.updatedb_conf.specs.declared.value.Variable.{Variable}
use Rattle.updatedb_conf.specs.declared.value.Variable.TheVariants.{PruneBindMounts, PruneFs, PruneNames, PrunePaths, RecentMargin}
use Rattle.updatedb_conf.specs.Line.{◌>>=◌, behind, quoted, ended, assignment, line_gives, past_blanks, ends_name, is_quote, is_empty_or_comment}
use Rattle.updatedb_conf.specs.Value.{Given, nothing_given, variable_named, flag_word, margin_word, has_slash, is_given, with_value, with_named, with_read, with_line}
use Rattle.updatedb_conf.specs.Settings.{Settings, settings_of, settings_in, at_line, given_by, given_in, lines}
use Rattle.updatedb_conf.specs.Words.{words}

is_long : ConfCause → Bool
is_long NoEquals = false
is_long NoQuote = false
is_long Unclosed = false
is_long Trailing = false
is_long Unknown = false
is_long Repeated = false
is_long BadFlag = false
is_long BadName = false
is_long OutOfMemory = false
is_long LongText = true
is_long BadMargin = false

-- a refusal, if it is one, has another cause
abbrev IsShort : {A : Type 0} → Result A ConfCause → Type 0
IsShort r = IfErr r (λ cause. is_long cause ≡ false)

IfErr-then : {A B E : Type 0} (P : E → Type 0) (r : Result A E) (f : A → Result B E) → IfErr r P → ((x : A) → IfErr (f x) P) → IfErr (r >>= f) P
IfErr-then P (Ok x) f h next = next x
IfErr-then P (Err e) f h next = h

IfErr-if : {A E : Type 0} (P : E → Type 0) (b : Bool) (r s : Result A E) → IfErr r P → IfErr s P → IfErr (cond b r s) P
IfErr-if P true r s h k = h
IfErr-if P false r s h k = k

abbrev then : {A B : Type 0} (r : Result A ConfCause) (f : A → Result B ConfCause) → IsShort r → ((x : A) → IsShort (f x)) → IsShort (r >>= f)
then r f h next = IfErr-then (λ cause. is_long cause ≡ false) r f h next

abbrev choice : {A : Type 0} (b : Bool) (r s : Result A ConfCause) → IsShort r → IsShort s → IsShort (cond b r s)
choice b r s h k = IfErr-if (λ cause. is_long cause ≡ false) b r s h k

behind-short : (byte : ℕ) (cause : ConfCause) (text : List ℕ) → is_long cause ≡ false → IsShort (behind byte cause text)
behind-short byte cause [] h = h
behind-short byte cause (x ∷ rest) h = choice (nat_eq x byte) (Ok rest) (Err cause) tt h

quoted-short : (text : List ℕ) → IsShort (quoted text)
unfolding quoted is_long
quoted-short text = choice (is_some (position is_quote text)) (Ok (before_first is_quote text, after_first is_quote text)) (Err Unclosed) tt refl

ended-short : (text : List ℕ) → IsShort (ended text)
unfolding ended is_long
ended-short text = choice (is_empty_or_comment (past_blanks text)) (Ok tt) (Err Trailing) tt refl

abbrev after_value : List ℕ → List ℕ × List ℕ → Result (List ℕ × List ℕ) ConfCause
after_value name value = ended value.1 >>= λ end. Ok (name, value.0)

abbrev after_quote : List ℕ → List ℕ → Result (List ℕ × List ℕ) ConfCause
after_quote name inside = quoted inside >>= after_value name

abbrev after_equals : List ℕ → List ℕ → Result (List ℕ × List ℕ) ConfCause
after_equals name equals = behind 34 NoQuote (past_blanks equals) >>= after_quote name

assignment-short : (text : List ℕ) → IsShort (assignment text)
unfolding assignment is_long
assignment-short text =
    let name = before_first ends_name text in
    then (behind 61 NoEquals (past_blanks (drop (position_or_len ends_name text) text))) (after_equals name) (behind-short 61 NoEquals (past_blanks (drop (position_or_len ends_name text) text)) refl) (λ equals.
    then (behind 34 NoQuote (past_blanks equals)) (after_quote name) (behind-short 34 NoQuote (past_blanks equals) refl) (λ inside.
    then (quoted inside) (after_value name) (quoted-short inside) (λ value.
    then (ended value.1) (λ end. Ok (name, value.0)) (ended-short value.1) (λ end. tt))))

line_gives-short : (line : List ℕ) → IsShort (line_gives line)
unfolding line_gives
line_gives-short line =
    choice (is_empty_or_comment (past_blanks line)) (Ok None) (assignment (past_blanks line) >>= λ given. Ok (Some given)) tt (then (assignment (past_blanks line)) (λ given. Ok (Some given)) (assignment-short (past_blanks line)) (λ given. tt))

ok_or-short : {A : Type 0} (o : Option A) (cause : ConfCause) → is_long cause ≡ false → IsShort (ok_or o cause)
ok_or-short None cause h = h
ok_or-short (Some x) cause h = tt

with_value-short : (given : Given) (variable : Variable) (value : List ℕ) → IsShort (with_value given variable value)
unfolding with_value is_long
with_value-short given PruneBindMounts value = then (ok_or (flag_word value) BadFlag) (λ flag. Ok (record given { bind = Some flag })) (ok_or-short (flag_word value) BadFlag refl) (λ flag. tt)
with_value-short given PruneFs value = tt
with_value-short given PruneNames value = choice (has_slash (words value)) (Err BadName) (Ok (record given { names = Some value })) refl tt
with_value-short given PrunePaths value = tt
with_value-short given RecentMargin value = then (ok_or (margin_word value) BadMargin) (λ margin. Ok (record given { margin = Some margin })) (ok_or-short (margin_word value) BadMargin refl) (λ margin. tt)

with_named-short : (given : Given) (name value : List ℕ) → IsShort (with_named given name value)
unfolding with_named is_long
with_named-short given name value =
    then (ok_or (variable_named name) Unknown) (λ variable. cond (is_given given variable) (Err Repeated) (with_value given variable value)) (ok_or-short (variable_named name) Unknown refl) (λ variable.
    choice (is_given given variable) (Err Repeated) (with_value given variable value) refl (with_value-short given variable value))

with_read-short : (given : Given) (read : Option (List ℕ × List ℕ)) → IsShort (with_read given read)
with_read-short given None = tt
with_read-short given (Some (name, value)) = with_named-short given name value

with_line-short : (given : Given) (line : List ℕ) → IsShort (with_line given line)
unfolding with_line
with_line-short given line = then (line_gives line) (with_read given) (line_gives-short line) (with_read-short given)

-- the same of a line's fault
abbrev HasShort : {A : Type 0} → Result A ConfFault → Type 0
HasShort r = IfErr r (λ fault. is_long fault.cause ≡ false)

at_line-short : (number : ℕ) (r : Result Given ConfCause) → IsShort r → HasShort (at_line number r)
at_line-short number (Ok given) h = tt
at_line-short number (Err cause) h = h

given_by-short : (number : ℕ) (given : Given) (lines : List (List ℕ)) → HasShort (given_by number given lines)
given_by-short number given [] = tt
given_by-short number given (line ∷ rest) =
    IfErr-then (λ fault. is_long fault.cause ≡ false) (at_line number (with_line given line)) (λ more. given_by (number + 1) more rest) (at_line-short number (with_line given line) (with_line-short given line)) (λ more. given_by-short (number + 1) more rest)

not_long : (cause : ConfCause) → is_long cause ≡ false → cause ≢ LongText
unfolding is_long
not_long cause h e = cc (ap is_long e)

-- a text is refused for one of its lines, not for its length
pub refused_for_a_line : (text : List ℕ) (r : Result Given ConfFault) → r ≡ given_in text → IfErr r (λ fault. fault.cause ≢ LongText)
unfolding given_in
refused_for_a_line text r e = for_all r (subst HasShort (sym e) (given_by-short 1 nothing_given (lines text)))
  where
    for_all : (r : Result Given ConfFault) → HasShort r → IfErr r (λ fault. fault.cause ≢ LongText)
    for_all (Ok given) h = tt
    for_all (Err fault) h = not_long fault.cause h
