-- One line of updatedb.conf(5): a variable, `=`, and its value in quotes.
use Rattle.std.specs.Prelude.{◌≡◌, ℕ, ◌==◌, Bool, true, not, ◌||◌, List, [], ◌∷◌, drop, Option, None, Some, is_some, Result, Ok, Err, if◌then◌else◌}
use Rattle.std.specs.List.{position, position_or_len, before_first, after_first}
use Rattle.updatedb_conf.specs.declared.fault.ConfCause.{ConfCause}
use Rattle.updatedb_conf.specs.declared.fault.ConfCause.TheVariants.{NoEquals, NoQuote, Unclosed, Trailing}
use Rattle.updatedb_conf.specs.Words.{is_blank}

infixl 10 ◌>>=◌
abbrev pub ◌>>=◌ : {A B E : Type 0} → Result A E → (A → Result B E) → Result B E
(Ok x) >>= f = f x
(Err fault) >>= f = Err fault

abbrev pub is_quote : ℕ → Bool
is_quote byte = byte == 34

-- a byte that ends the name of a variable: white space, `=` (61), `#` (35) or `"` (34)
abbrev pub ends_name : ℕ → Bool
ends_name byte = is_blank byte || (byte == 61 || (byte == 35 || byte == 34))

-- a text from the first byte on that is no white space
unfoldable pub past_blanks : List ℕ → List ℕ
past_blanks text = drop (position_or_len (λ byte. not (is_blank byte)) text) text

-- nothing is said there, or a comment begins, with `#` (35)
abbrev pub is_empty_or_comment : List ℕ → Bool
is_empty_or_comment [] = true
is_empty_or_comment (byte ∷ rest) = byte == 35

-- what follows a byte that must stand first
abbrev pub behind : ℕ → ConfCause → List ℕ → Result (List ℕ) ConfCause
behind wanted cause [] = Err cause
behind wanted cause (byte ∷ rest) = if byte == wanted then Ok rest else Err cause

-- the value up to the next `"`, and what follows that
unfoldable pub quoted : List ℕ → Result (List ℕ × List ℕ) ConfCause
quoted text = if is_some (position is_quote text) then Ok (before_first is_quote text, after_first is_quote text) else Err Unclosed

-- behind the value stands nothing but a comment
unfoldable pub ended : List ℕ → Result (Unit {0}) ConfCause
ended text = if is_empty_or_comment (past_blanks text) then Ok tt else Err Trailing

-- the name of a variable, and its value
unfoldable pub assignment : List ℕ → Result (List ℕ × List ℕ) ConfCause
assignment text = do
  equals ← behind 61 NoEquals (past_blanks (drop (position_or_len ends_name text) text))
  inside ← behind 34 NoQuote (past_blanks equals)
  value ← quoted inside
  end ← ended value.1
  Ok (before_first ends_name text, value.0)

-- what a line gives: nothing, or a name with a value
unfoldable pub line_gives : List ℕ → Result (Option (List ℕ × List ℕ)) ConfCause
line_gives line =
    if is_empty_or_comment (past_blanks line) then Ok None else (assignment (past_blanks line) >>= λ given. Ok (Some given))

-- what a function returned, seen by view, is what reading gives
abbrev pub Gives : {X Y : Type 0} → (X → Y) → Result X ConfCause → Result Y ConfCause → Type 0
Gives view (Ok x) read = read ≡ Ok (view x)
Gives view (Err cause) read = read ≡ Err cause
