-- The tokens of a pattern.
use Rattle.std.specs.Prelude.{ℕ, ◌+◌, ◌==◌, Bool, true, false, List, drop, Option, Some, None, Result, Ok, Err}
use Rattle.byte_class.specs.ByteSet.{has, members, folded}
use Rattle.posix_regex.specs.declared.fault.RegexCause.{RegexCause}
use Rattle.posix_regex.specs.declared.fault.RegexCause.TheVariants.{BadRepeat, Trailing as TrailingCause, Unsupported as UnsupportedCause}
use Rattle.posix_regex.specs.declared.lex.Meaning.{Meaning}
use Rattle.posix_regex.specs.declared.lex.Meaning.TheVariants.{Byte, Any, Bracket, Start as StartMark, End as EndMark, Open as OpenMark, Close as CloseMark, Bar as BarMark, Suffix as SuffixMark, Interval, Trailing, Unsupported}
use Rattle.posix_regex.specs.declared.token.Kept.{Kept}
use Rattle.posix_regex.specs.declared.token.Kept.TheVariants.{Set as KeptSet, Start as KeptStart, End as KeptEnd, Suffix as KeptSuffix, Bar as KeptBar, Open as KeptOpen, Close as KeptClose}
use Rattle.posix_regex.specs.Expression.{Expression, OneOf, Start, End}
use Rattle.posix_regex.specs.Lex.{meaning_at}
use Rattle.posix_regex.specs.Interval.{interval_at}
use Rattle.posix_regex.specs.Bracket.{on_ok, bracket}

-- What a reader of expressions meets: an expression of one place; a repetition, with its least and its greatest number where it has one;
-- the bar; a parenthesis.
pub data Token : Type 0 where
  Atom : Expression → Token
  Suffix : ℕ → Option ℕ → Token
  Bar : Token
  Open : Token
  Close : Token

-- the expression of one byte, in both cases where case is folded
unfoldable pub literal : Bool → ℕ → Expression
literal fold byte = OneOf (members (folded fold (λ x. x == byte)))

unfoldable pub any_byte : Expression
any_byte = OneOf (members (λ byte. true))

-- the suffix of an interval whose opening takes so many bytes
unfoldable pub interval_token : ℕ → Option ((ℕ × Option ℕ) × ℕ) → Result (Token × ℕ) (ℕ × RegexCause)
interval_token opening None = Err (0, BadRepeat)
interval_token opening (Some bounds) = Ok (Suffix bounds.0.0 bounds.0.1, opening + bounds.1)

-- the token whose first `taken` bytes, right before the text, have this meaning, and how many bytes it takes; the place of
-- a fault counts from its first byte
unfoldable pub token_of_meaning : Bool → Bool → Meaning → ℕ → List ℕ → Result (Token × ℕ) (ℕ × RegexCause)
token_of_meaning extended fold (Byte byte) taken text = Ok (Atom (literal fold byte), taken)
token_of_meaning extended fold Any taken text = Ok (Atom any_byte, taken)
token_of_meaning extended fold Bracket taken text = on_ok (bracket fold text) (λ b. Ok (Atom b.0, b.1))
token_of_meaning extended fold StartMark taken text = Ok (Atom Start, taken)
token_of_meaning extended fold EndMark taken text = Ok (Atom End, taken)
token_of_meaning extended fold OpenMark taken text = Ok (Open, taken)
token_of_meaning extended fold CloseMark taken text = Ok (Close, taken)
token_of_meaning extended fold BarMark taken text = Ok (Bar, taken)
token_of_meaning extended fold (SuffixMark least more) taken text = Ok (Suffix least more, taken)
token_of_meaning extended fold Interval taken text = interval_token taken (interval_at extended text)
token_of_meaning extended fold Trailing taken text = Err (0, TrailingCause)
token_of_meaning extended fold Unsupported taken text = Err (0, UnsupportedCause)

-- the token at the head of a text, and how many bytes it takes
unfoldable pub token_at : Bool → Bool → Bool → Bool → List ℕ → Result (Token × ℕ) (ℕ × RegexCause)
token_at extended fold begins bare text =
    token_of_meaning extended fold (meaning_at extended begins bare text).0 (meaning_at extended begins bare text).1
    (drop (meaning_at extended begins bare text).1 text)

-- the token that the code keeps
abbrev pub token_of : Kept → Token
token_of (KeptSet set) = Atom (OneOf (members (has set)))
token_of KeptStart = Atom Start
token_of KeptEnd = Atom End
token_of (KeptSuffix least more) = Suffix least more
token_of KeptBar = Bar
token_of KeptOpen = Open
token_of KeptClose = Close

-- Whether a group has just begun after a token, and whether nothing but perhaps an anchor stands between there and a
-- beginning. Only basic syntax asks, where `^` is an anchor at a beginning alone, so that the token `^` tells of one.
unfoldable pub begins_after : Token → Bool
begins_after Open = true
begins_after (Atom e) = false
begins_after (Suffix least more) = false
begins_after Bar = false
begins_after Close = false

abbrev pub is_start : Expression → Bool
is_start Start = true
is_start _ = false

unfoldable pub bare_after : Token → Bool
bare_after Open = true
bare_after (Atom e) = is_start e
bare_after (Suffix least more) = false
bare_after Bar = false
bare_after Close = false
