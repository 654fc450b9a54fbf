-- Bracket expressions, and where they are wrong.
use Rattle.std.specs.Prelude.{ℕ, zero, suc, ◌+◌, ◌-◌, Bool, false, not, ◌||◌, ◌&&◌, ◌==◌, nat_eq, nat_lt, List, [], ◌∷◌, take, drop, slice_index, Option, Some, None, Result, Ok, Err, is_some, is_none, codes, if◌then◌else◌}
use Rattle.std.specs.List.{starts_with}
use Rattle.byte_class.specs.ByteSet.{members, in_set}
use Rattle.byte_class.specs.Class.{class_at, class_named}
use Rattle.byte_class.specs.Part.{Part, Named, Range, has_parts}
use Rattle.posix_regex.specs.declared.fault.RegexCause.{RegexCause}
use Rattle.posix_regex.specs.declared.fault.RegexCause.TheVariants.{BadBracket, BadClass, Unsupported}
use Rattle.posix_regex.specs.Expression.{Expression, OneOf}

-- the second reader goes on from what the first one read; a fault of the first stands
abbrev pub on_ok : {A B E : Type 0} → Result A E → (A → Result B E) → Result B E
on_ok (Ok read) next = next read
on_ok (Err fault) next = Err fault

-- the text begins with `[=` or `[.`
unfoldable pub is_reserved : List ℕ → Bool
is_reserved text = starts_with nat_eq text (codes "[=") || starts_with nat_eq text (codes "[.")

-- a range goes on behind its first byte: a `-`, and then neither the closing `]` nor a class
unfoldable pub is_range : List ℕ → Bool
is_range [] = false
is_range (dash ∷ []) = false
is_range (dash ∷ x ∷ text) = dash == 45 && (not (x == 93) && is_none (class_at (x ∷ text)))

-- the class whose name has so many letters, and how many bytes it takes; `at` is the place of its `[`, in bytes from the
-- `[` of the bracket expression
unfoldable pub class_member : ℕ → List ℕ → ℕ → Result (Part × ℕ) (ℕ × RegexCause)
class_member at text letters =
    if is_some (class_named (take letters (drop 2 text))) then Ok (Named (take letters (drop 2 text)), letters + 4)
    else Err (at, BadClass)

-- the range from the byte `low` at a place, right before the text, and how many bytes it takes
unfoldable pub range_member : ℕ → ℕ → List ℕ → Result (Part × ℕ) (ℕ × RegexCause)
range_member at low text =
    if is_reserved (drop 1 text) then Err (at + 2, Unsupported)
    else (if nat_lt (slice_index text 1) low then Err (0, BadBracket)
    else Ok (Range low (slice_index text 1), 3))

-- the member at the head of a text that begins with no class: a byte or a range
unfoldable pub byte_member : ℕ → List ℕ → Result (Part × ℕ) (ℕ × RegexCause)
byte_member at text =
    if is_reserved text then Err (at, Unsupported)
    else (if is_range (drop 1 text) then range_member at (slice_index text 0) (drop 1 text)
    else Ok (Range (slice_index text 0) (slice_index text 0), 1))

unfoldable pub member_or : ℕ → List ℕ → Option ℕ → Result (Part × ℕ) (ℕ × RegexCause)
member_or at text (Some letters) = class_member at text letters
member_or at text None = byte_member at text

-- the member at the head of the text, and how many bytes it takes
abbrev pub member_at : ℕ → List ℕ → Result (Part × ℕ) (ℕ × RegexCause)
member_at at text = member_or at text (class_at text)

-- past `skip` bytes, the members up to the closing `]`, the last first and the earlier ones behind, and the place after it
unfoldable pub members_from : List Part → ℕ → ℕ → List ℕ → Result (List Part × ℕ) (ℕ × RegexCause)
members_from earlier at skip [] = Err (0, BadBracket)
members_from earlier at (suc skip) (x ∷ text) = members_from earlier (at + 1) skip text
members_from earlier at zero (x ∷ text) =
    if x == 93 then Ok (earlier, at + 1)
    else on_ok (member_at at (x ∷ text)) (λ m. members_from (m.0 ∷ earlier) (at + 1) (m.1 - 1) text)

-- the same from the first member on, which may be a `]`
unfoldable pub members_first : ℕ → List ℕ → Result (List Part × ℕ) (ℕ × RegexCause)
members_first at [] = Err (0, BadBracket)
members_first at (x ∷ text) =
    on_ok (member_at at (x ∷ text)) (λ m. members_from (m.0 ∷ []) (at + 1) (m.1 - 1) text)

-- the text begins with `^`, the mark of a complement
unfoldable pub is_complement : List ℕ → Bool
is_complement text = slice_index text 0 == 94

-- the members, past that mark if there is one, and the place after the closing `]`
unfoldable pub members_marked : List ℕ → Result (List Part × ℕ) (ℕ × RegexCause)
members_marked text = if is_complement text then members_first 2 (drop 1 text) else members_first 1 text

-- the bracket expression whose `[` comes right before the text, and how many bytes it takes, the `[` among them
unfoldable pub bracket : Bool → List ℕ → Result (Expression × ℕ) (ℕ × RegexCause)
bracket fold text =
    on_ok (members_marked text) (λ m. Ok (OneOf (members (in_set fold (is_complement text) (has_parts m.0))), m.1))
