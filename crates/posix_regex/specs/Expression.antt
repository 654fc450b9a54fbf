-- Regular expressions, and what they span in a text.
use Rattle.std.specs.Prelude.{◌≡◌, ℕ, zero, suc, ◌+◌, ◌*◌, ◌<◌, ◌≤◌, ◌⊎◌, max, List, length, slice_index, Contains, Option, Some, None}

-- one byte of some; the start or the end of the text; nothing; one expression and then another; one or the other; one
-- repeated at least so many times and, where a second number is given, at most so many times more
pub data Expression : Type 0 where
  OneOf : List ℕ → Expression
  Start : Expression
  End : Expression
  Empty : Expression
  Then : Expression → Expression → Expression
  Or : Expression → Expression → Expression
  Repeat : Expression → ℕ → Option ℕ → Expression

-- a repetition may be taken this many times
abbrev pub IsAllowed : ℕ → Option ℕ → ℕ → Type 0
IsAllowed least None count = least ≤ count
IsAllowed least (Some more) count = (least ≤ count) × (count ≤ least + more)

-- so many steps, one after another, lead from one place to another
abbrev pub Times : (ℕ → ℕ → Type 0) → ℕ → ℕ → ℕ → Type 0
Times Step zero i j = i ≡ j
Times Step (suc count) i j = (k : ℕ) × Step i k × Times Step count k j

-- the expression spans the text from the place i to the place j
abbrev pub Spans : Expression → List ℕ → ℕ → ℕ → Type 0
Spans (OneOf bytes) text i j = (i < length text) × (j ≡ i + 1) × Contains bytes (slice_index text i)
Spans Start text i j = (i ≡ 0) × (j ≡ 0)
Spans End text i j = (i ≡ length text) × (j ≡ length text)
Spans Empty text i j = i ≡ j
Spans (Then first second) text i j = (k : ℕ) × Spans first text i k × Spans second text k j
Spans (Or first second) text i j = Spans first text i j ⊎ Spans second text i j
Spans (Repeat inner least more) text i j = (count : ℕ) × IsAllowed least more count × Times (Spans inner text) count i j

-- the expression spans some part of the text
abbrev pub Found : Expression → List ℕ → Type 0
Found expression text = (i : ℕ) × (j : ℕ) × (i ≤ j) × (j ≤ length text) × Spans expression text i j

-- How big an expression is: its byte sets, anchors and bars. A repeated part counts, with one more each time, as often as
-- it may come; where that has no bound, as often as it must come, at least once, and one more.
unfoldable pub size : Expression → ℕ
size (OneOf bytes) = 1
size Start = 1
size End = 1
size Empty = 0
size (Then first second) = size first + size second
size (Or first second) = size first + size second + 1
size (Repeat inner least None) = max least 1 * (size inner + 1) + 1
size (Repeat inner least (Some more)) = (least + more) * (size inner + 1)
