-- Bracket expressions: what stands in them, and where they end.
use Rattle.std.specs.Prelude.{ℕ, zero, suc, ◌+◌, ◌-◌, Bool, not, ◌||◌, ◌&&◌, ◌==◌, List, [], ◌∷◌, take, drop, slice_index, Option, Some, None, option_map, is_none, if◌then◌else◌}
use Rattle.byte_class.specs.ByteSet.{in_set, members}
use Rattle.byte_class.specs.Class.{class_at}
use Rattle.byte_class.specs.Part.{Part, Named, Range, has_parts}
use Rattle.glob_match.specs.Item.{Item, OneOf}

-- the byte that stands first, which a backslash may quote, and how many bytes it takes;
-- a backslash at the end stands for itself, which in a bracket is never asked, as none closes then
unfoldable pub quoted : List ℕ → ℕ × ℕ
quoted [] = (0, 0)
quoted (x ∷ []) = (x, 1)
quoted (x ∷ y ∷ text) = if x == 92 then (y, 2) else (x, 1)

-- the end of a range and how many bytes it takes with its `-`, where `-` stands first, and then neither the
-- closing `]` nor a class
unfoldable pub range_end : List ℕ → Option (ℕ × ℕ)
range_end [] = None
range_end (dash ∷ []) = None
range_end (dash ∷ x ∷ text) =
    if dash == 45 && (not (x == 93) && is_none (class_at (x ∷ text)))
    then Some ((quoted (x ∷ text)).0, (quoted (x ∷ text)).1 + 1) else None

-- the range that begins with a byte, or that byte alone
unfoldable pub range_at : ℕ × ℕ → Option (ℕ × ℕ) → Part × ℕ
range_at low None = (Range low.0 low.0, low.1)
range_at low (Some high) = (Range low.0 high.0, low.1 + high.1)

-- the part that stands first, and how many bytes it takes
unfoldable pub part_or : List ℕ → Option ℕ → Part × ℕ
part_or text (Some letters) = (Named (take letters (drop 2 text)), letters + 4)
part_or text None = range_at (quoted text) (range_end (drop (quoted text).1 text))

abbrev pub part_at : List ℕ → Part × ℕ
part_at text = part_or text (class_at text)

-- the same parts with one before them
abbrev pub after_part : Part → Option (List Part × List ℕ) → Option (List Part × List ℕ)
after_part part read = option_map (λ r. (part ∷ r.0, r.1)) read

-- past some bytes, the parts up to the closing `]`, and what follows it
unfoldable pub parts : ℕ → List ℕ → Option (List Part × List ℕ)
parts skip [] = None
parts (suc skip) (x ∷ text) = parts skip text
parts zero (x ∷ text) =
    if x == 93 then Some ([], text)
    else after_part (part_at (x ∷ text)).0 (parts ((part_at (x ∷ text)).1 - 1) text)

-- the same where a `]` that stands first is a member
unfoldable pub parts_first : List ℕ → Option (List Part × List ℕ)
parts_first [] = None
parts_first (x ∷ text) = after_part (part_at (x ∷ text)).0 (parts ((part_at (x ∷ text)).1 - 1) text)

-- whether the mark of a complement stands first, `!` or `^`
unfoldable pub is_complement : List ℕ → Bool
is_complement text = slice_index text 0 == 33 || slice_index text 0 == 94

-- the item of the bracket expression whose `[` stands before the text, and what follows its `]`
unfoldable pub bracket : Bool → List ℕ → Option (Item × List ℕ)
bracket fold text =
    option_map
    (λ r. (OneOf (members (in_set fold (is_complement text) (has_parts r.0))), r.1))
    (parts_first (if is_complement text then drop 1 text else text))
