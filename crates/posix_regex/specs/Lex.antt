-- What the bytes of a pattern mean, in extended and in basic syntax.
use Rattle.std.specs.Prelude.{ℕ, ◌==◌, ◌||◌, ◌&&◌, not, Bool, List, [], ◌∷◌, length, Some, None, codes, nat_eq, if◌then◌else◌}
use Rattle.std.specs.List.{starts_with}
use Rattle.byte_class.specs.Class.{is_alnum}
use Rattle.posix_regex.specs.declared.lex.Meaning.{Meaning}
use Rattle.posix_regex.specs.declared.lex.Meaning.TheVariants.{Byte, Any, Bracket, Start, End, Open, Close, Bar, Suffix, Interval, Trailing, Unsupported}

-- what a backslash right before the text means in extended syntax, and how many bytes it takes
unfoldable pub escape_extended : List ℕ → Meaning × ℕ
escape_extended [] = (Trailing, 1)
escape_extended (x ∷ text) = if is_alnum x then (Unsupported, 2) else (Byte x, 2)

-- the same in basic syntax
unfoldable pub escape_basic : List ℕ → Meaning × ℕ
escape_basic [] = (Trailing, 1)
escape_basic (x ∷ text) =
    if x == 40 then (Open, 2)
    else (if x == 41 then (Close, 2)
    else (if x == 123 then (Interval, 2)
    else (if is_alnum x || (x == 124 || (x == 43 || x == 63)) then (Unsupported, 2) else (Byte x, 2))))

-- what a byte right before the text means in extended syntax, and how many bytes it takes
unfoldable pub meaning_extended : ℕ → List ℕ → Meaning × ℕ
meaning_extended x text =
    if x == 92 then escape_extended text
    else (if x == 91 then (Bracket, 1)
    else (if x == 46 then (Any, 1)
    else (if x == 94 then (Start, 1)
    else (if x == 36 then (End, 1)
    else (if x == 40 then (Open, 1)
    else (if x == 41 then (Close, 1)
    else (if x == 124 then (Bar, 1)
    else (if x == 42 then (Suffix 0 None, 1)
    else (if x == 43 then (Suffix 1 None, 1)
    else (if x == 63 then (Suffix 0 (Some 1), 1)
    else (if x == 123 then (Interval, 1)
    else (Byte x, 1))))))))))))

-- the pattern or a group ends here, in basic syntax
unfoldable pub is_end : List ℕ → Bool
is_end text = (length text == 0) || starts_with nat_eq text (codes "\\)")

-- the same in basic syntax, which asks whether the pattern or a group has just begun (`begins`), and whether it has nothing
-- yet but perhaps an anchor (`bare`)
unfoldable pub meaning_basic : Bool → Bool → ℕ → List ℕ → Meaning × ℕ
meaning_basic begins bare x text =
    if x == 92 then escape_basic text
    else (if x == 91 then (Bracket, 1)
    else (if x == 46 then (Any, 1)
    else (if x == 94 && begins then (Start, 1)
    else (if x == 36 && is_end text then (End, 1)
    else (if x == 42 && not bare then (Suffix 0 None, 1)
    else (Byte x, 1))))))

-- what the head of a text means, and how many bytes it takes
unfoldable pub meaning_at : Bool → Bool → Bool → List ℕ → Meaning × ℕ
meaning_at extended begins bare [] = (Trailing, 1)
meaning_at extended begins bare (x ∷ text) = if extended then meaning_extended x text else meaning_basic begins bare x text
