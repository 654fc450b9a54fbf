-- What a pattern stands for.
use Rattle.std.specs.Prelude.{ℕ, zero, suc, ◌-◌, Bool, true, ◌||◌, ◌==◌, not, List, [], ◌∷◌, ◌++◌, length, drop, map, unwrap_or, Option, Some, None, if◌then◌else◌}
use Rattle.std.specs.List.{list_all}
use Rattle.memchr.specs.Find.{OccursAt}
use Rattle.byte_class.specs.ByteSet.{folded, members}
use Rattle.glob_match.specs.Bracket.{quoted, bracket}
use Rattle.glob_match.specs.Item.{Item, Star, OneOf}
use Rattle.glob_match.specs.Language.{Matches}

-- the item of one byte, which stands for both its cases where case is folded
unfoldable pub literal : Bool → ℕ → Item
literal fold byte = OneOf (members (folded fold (λ x. x == byte)))

-- the item of `?`
unfoldable pub any_byte : Item
any_byte = OneOf (members (λ byte. true))

-- the item that a byte begins, and what follows the item
unfoldable pub item_at : Bool → ℕ → List ℕ → Item × List ℕ
item_at fold x text =
    if x == 42 then (Star, text)
    else (if x == 63 then (any_byte, text)
    else (if x == 92 then (literal fold (quoted (x ∷ text)).0, drop ((quoted (x ∷ text)).1 - 1) text)
    else (if x == 91 then unwrap_or (bracket fold text) (literal fold x, text)
    else (literal fold x, text))))

-- past some bytes, the items of a pattern
unfoldable pub items : Bool → ℕ → List ℕ → List Item
items fold skip [] = []
items fold (suc skip) (x ∷ text) = items fold skip text
items fold zero (x ∷ text) = (item_at fold x text).0 ∷ items fold (length text - length (item_at fold x text).1) text

-- whether a byte has a meaning in patterns: `*`, `?`, `[`, `\`, `]`
unfoldable pub is_special : ℕ → Bool
is_special byte = byte == 42 || (byte == 63 || (byte == 91 || (byte == 92 || byte == 93)))

-- whether no byte of a pattern is special
unfoldable pub is_plain : List ℕ → Bool
is_plain pattern = list_all (λ byte. not (is_special byte)) pattern

-- what a pattern asks of a text: that some bytes occur in it, or that it be matched by items
pub data Wanted : Type 0 where
  Plain : List ℕ → Wanted
  Listed : List Item → Wanted

-- what a pattern stands for; where case is folded a plain one is a star, its bytes and a star
unfoldable pub wanted : List ℕ → Bool → Wanted
wanted pattern fold =
    if is_plain pattern
    then (if fold then Listed ((Star ∷ map (literal true) pattern) ++ Star ∷ []) else Plain pattern)
    else Listed (items fold 0 pattern)

-- the items of what is wanted, none where it is plain
abbrev pub items_of : Wanted → List Item
items_of (Plain bytes) = []
items_of (Listed items) = items

-- the text is one that the pattern stands for
abbrev pub InGlob : Wanted → List ℕ → Type 0
InGlob (Plain bytes) text = (place : ℕ) × OccursAt text bytes place
InGlob (Listed items) text = Matches items text

-- the bytes of a plain pattern
abbrev pub plain_of : Wanted → Option (List ℕ)
plain_of (Plain bytes) = Some bytes
plain_of (Listed items) = None

-- what a pattern asks, from what is kept: the bytes that are searched for, or else the items
abbrev pub wanted_of : Option (List ℕ) → List Item → Wanted
wanted_of (Some bytes) items = Plain bytes
wanted_of None items = Listed items
