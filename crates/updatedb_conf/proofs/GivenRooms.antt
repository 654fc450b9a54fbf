-- The values that lines give take no more room than the lines.
use Rattle.std.proofs.Common.{◌≡◌, ℕ, ◌+◌, ◌≤◌, Bool, true, false, cond, List, [], ◌∷◌, map, length, drop, Option, Some, None, is_some, unwrap_or, Result, Ok, Err, IfOk, refl, ap, sym, subst, ◌∙◌, arith, nat_eq}
use Rattle.std.specs.Option.{ok_or}
use Rattle.std.specs.List.{position, position_or_len, before_first, after_first}
use Rattle.std.proofs.lemmas.List.{length-drop, length-take}
use Rattle.updatedb_conf.specs.declared.fault.ConfCause.{ConfCause}
use Rattle.updatedb_conf.specs.declared.fault.ConfCause.TheVariants.{Unclosed, Unknown, Repeated, BadFlag, BadMargin}
use Rattle.updatedb_conf.specs.declared.fault.ConfFault.{ConfFault}
use Rattle.updatedb_conf.specs.declared.value.Variable.{Variable}
use Rattle.updatedb_conf.specs.declared.value.Variable.TheVariants.{PruneBindMounts, PruneFs, PruneNames, PrunePaths, RecentMargin}
use Rattle.updatedb_conf.specs.Line.{◌>>=◌, behind, past_blanks, quoted, ended, assignment, line_gives, ends_name, is_quote, is_empty_or_comment}
use Rattle.updatedb_conf.specs.Value.{Given, nothing_given, variable_named, flag_word, margin_word, has_slash, is_given, with_value, with_named, with_read, with_line}
use Rattle.updatedb_conf.specs.Settings.{Settings, settings_of, settings_in, settings_room, words_given, at_line, given_by, given_in, lines}
use Rattle.updatedb_conf.specs.Words.{words, upper, set_of, set_room, room_of, is_newline}
use Rattle.updatedb_conf.proofs.Rooms.{room-words, room-upper, room-set_of, room-slice_split}

-- what holds of each step holds of both
IfOk-then : {A B E : Type 0} (r : Result A E) (f : A → Result B E) (P : A → Type 0) (Q : B → Type 0) → IfOk r P → ((x : A) → P x → IfOk (f x) Q) → IfOk (r >>= f) Q
IfOk-then (Ok x) f P Q h next = next x h
IfOk-then (Err e) f P Q h next = tt

IfOk-if : {A E : Type 0} (b : Bool) (r s : Result A E) (P : A → Type 0) → IfOk r P → IfOk s P → IfOk (cond b r s) P
IfOk-if true r s P h k = h
IfOk-if false r s P h k = k

behind-within : (byte : ℕ) (cause : ConfCause) (text : List ℕ) (most : ℕ) → length text ≤ most → IfOk (behind byte cause text) (λ rest. length rest ≤ most)
behind-within byte cause [] most h = tt
behind-within byte cause (x ∷ rest) most h = IfOk-if (nat_eq x byte) (Ok rest) (Err cause) (λ rest. length rest ≤ most) (omega arith) tt

past_blanks-within : (text : List ℕ) (most : ℕ) → length text ≤ most → length (past_blanks text) ≤ most
unfolding past_blanks
past_blanks-within text most h = omega (arith, length-drop {A = ℕ})

quoted-within : (text : List ℕ) (most : ℕ) → length text ≤ most → IfOk (quoted text) (λ value. length value.0 ≤ most)
unfolding quoted
quoted-within text most h =
    let fits : length (before_first is_quote text) ≤ most = omega (arith, length-take (position_or_len is_quote text) text) in
    IfOk-if (is_some (position is_quote text)) (Ok (before_first is_quote text, after_first is_quote text)) (Err Unclosed) (λ (value : List ℕ × List ℕ). length value.0 ≤ most) fits tt

assignment-within : (text : List ℕ) (most : ℕ) → length text ≤ most → IfOk (assignment text) (λ given. length given.1 ≤ most)
unfolding assignment
assignment-within text most h =
    let after_name : length (drop (position_or_len ends_name text) text) ≤ most = omega (arith, length-drop {A = ℕ}) in
    IfOk-then _ _ (λ rest. length rest ≤ most) _ (behind-within _ _ _ most (past_blanks-within _ most after_name)) (λ equals e.
    IfOk-then _ _ (λ rest. length rest ≤ most) _ (behind-within _ _ _ most (past_blanks-within equals most e)) (λ inside i.
    IfOk-then _ _ (λ (value : List ℕ × List ℕ). length value.0 ≤ most) _ (quoted-within inside most i) (λ value v.
    IfOk-then (ended value.1) _ (λ _. Unit {0}) _ (anything (ended value.1)) (λ end _. v))))
  where
    anything : {A E : Type 0} (r : Result A E) → IfOk r (λ _. Unit {0})
    anything (Ok x) = tt
    anything (Err e) = tt

-- the room of the value that a line gives
abbrev read_room : Option (List ℕ × List ℕ) → ℕ
read_room None = 0
read_room (Some given) = length given.1

line_gives-within : (line : List ℕ) → IfOk (line_gives line) (λ given. read_room given ≤ length line)
unfolding line_gives
line_gives-within line =
    IfOk-if (is_empty_or_comment (past_blanks line)) _ _ (λ given. read_room given ≤ length line) (omega arith)
    (IfOk-then _ _ (λ (given : List ℕ × List ℕ). length given.1 ≤ length line) _ (assignment-within (past_blanks line) (length line) (past_blanks-within line (length line) (omega arith))) (λ given h. h))

-- the room of a value, if it is given
abbrev value_room : Option (List ℕ) → ℕ
value_room None = 0
value_room (Some value) = length value + 1

abbrev given_room : Given → ℕ
given_room given = value_room given.fs + value_room given.names + value_room given.paths

flag-within : (flag : Option Bool) (given : Given) (most : ℕ) → given_room given ≤ most → IfOk (ok_or flag BadFlag >>= λ f. Ok (record given { bind = Some f })) (λ more. given_room more ≤ most)
flag-within None given most h = tt
flag-within (Some f) given most h = h

margin-within : (margin : Option ℕ) (given : Given) (most : ℕ) → given_room given ≤ most → IfOk (ok_or margin BadMargin >>= λ m. Ok (record given { margin = Some m })) (λ more. given_room more ≤ most)
margin-within None given most h = tt
margin-within (Some m) given most h = h

with_value-within : (given : Given) (variable : Variable) (value : List ℕ) → IfOk (with_value given variable value) (λ more. given_room more ≤ given_room given + (length value + 1))
unfolding with_value
with_value-within given PruneBindMounts value = flag-within (flag_word value) given _ (omega arith)
with_value-within given PruneFs value = omega arith
with_value-within given PruneNames value = IfOk-if (has_slash (words value)) _ _ (λ more. given_room more ≤ given_room given + (length value + 1)) tt (omega arith)
with_value-within given PrunePaths value = omega arith
with_value-within given RecentMargin value = margin-within (margin_word value) given _ (omega arith)

with_named-within : (given : Given) (name value : List ℕ) → IfOk (with_named given name value) (λ more. given_room more ≤ given_room given + (length value + 1))
unfolding with_named
with_named-within given name value = known (variable_named name)
  where
    known : (v : Option Variable) → IfOk (ok_or v Unknown >>= λ variable. cond (is_given given variable) (Err Repeated) (with_value given variable value)) (λ more. given_room more ≤ given_room given + (length value + 1))
    known None = tt
    known (Some variable) = IfOk-if (is_given given variable) _ _ (λ more. given_room more ≤ given_room given + (length value + 1)) tt (with_value-within given variable value)

with_read-within : (given : Given) (read : Option (List ℕ × List ℕ)) → IfOk (with_read given read) (λ more. given_room more ≤ given_room given + (read_room read + 1))
with_read-within given None = omega arith
with_read-within given (Some (name, value)) = with_named-within given name value

IfOk-weaker : {A E : Type 0} (r : Result A E) (P Q : A → Type 0) → ((x : A) → P x → Q x) → IfOk r P → IfOk r Q
IfOk-weaker (Ok x) P Q more h = more x h
IfOk-weaker (Err e) P Q more h = tt

with_line-within : (given : Given) (line : List ℕ) → IfOk (with_line given line) (λ more. given_room more ≤ given_room given + (length line + 1))
unfolding with_line
with_line-within given line =
    IfOk-then (line_gives line) (with_read given) (λ read. read_room read ≤ length line) (λ more. given_room more ≤ given_room given + (length line + 1)) (line_gives-within line) (λ read h.
    IfOk-weaker (with_read given read) _ _ (λ more k. omega arith) (with_read-within given read))

at_line-within : (number : ℕ) (r : Result Given ConfCause) (P : Given → Type 0) → IfOk r P → IfOk (at_line number r) P
at_line-within number (Ok given) P h = h
at_line-within number (Err cause) P h = tt

given_by-within : (number : ℕ) (given : Given) (lines : List (List ℕ)) → IfOk (given_by number given lines) (λ more. given_room more ≤ given_room given + room_of lines)
given_by-within number given [] = omega arith
given_by-within number given (line ∷ rest) =
    IfOk-then (at_line number (with_line given line)) _ (λ more. given_room more ≤ given_room given + (length line + 1)) _ (at_line-within number (with_line given line) _ (with_line-within given line)) (λ more h.
    IfOk-weaker (given_by (number + 1) more rest) _ _ (λ last k. omega arith) (given_by-within (number + 1) more rest))

words_given-within : (value : Option (List ℕ)) → room_of (words_given value) ≤ value_room value
unfolding words
words_given-within None = omega arith
words_given-within (Some value) = room-words value

settings_of-within : (given : Given) → settings_room (settings_of given) ≤ given_room given
settings_of-within given =
    omega (arith, room-set_of (map upper (words_given given.fs)), room-upper (words_given given.fs), room-set_of (words_given given.names), room-set_of (words_given given.paths), words_given-within given.fs, words_given-within given.names, words_given-within given.paths)

settings_in-within : (text : List ℕ) → IfOk (settings_in text) (λ settings. settings_room settings ≤ length text + 1)
unfolding given_in
settings_in-within text =
    IfOk-then (given_in text) _ (λ given. given_room given ≤ length text + 1) _ (IfOk-weaker (given_in text) _ _ (λ given h. omega (arith, room-slice_split is_newline text)) (given_by-within 1 nothing_given (lines text))) (λ given h. omega (arith, settings_of-within given))

-- the words of a configuration take no more room than its text
pub room_settings_in : (text : List ℕ) (settings : Settings) → settings_in text ≡ Ok settings → settings_room settings ≤ length text + 1
room_settings_in text settings e = subst (λ r. IfOk r (λ s. settings_room s ≤ length text + 1)) e (settings_in-within text)
