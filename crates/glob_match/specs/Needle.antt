-- Where bytes stand in a text, as they are or but for the case of ASCII letters.
use Rattle.std.specs.Prelude.{◌≡◌, ℕ, ◌+◌, ◌<◌, ◌≤◌, Bool, true, false, List, [], ◌∷◌, ◌++◌, length, take, drop, map}
use Rattle.std.specs.Char.{to_ascii_lowercase}
use Rattle.memchr.specs.Find.{OccursAt, Passes, is_byte2}
use Rattle.glob_match.specs.Item.{Star}
use Rattle.glob_match.specs.Pattern.{Wanted, Plain, Listed, literal}

-- the text from a place on begins with the bytes, where `fold` but for the case of ASCII letters
abbrev pub Stands : Bool → List ℕ → List ℕ → ℕ → Type 0
Stands true bytes text place =
    map to_ascii_lowercase (take (length bytes) (drop place text)) ≡ map to_ascii_lowercase bytes
Stands false bytes text place = OccursAt text bytes place

-- it does so from some place on
abbrev pub Occurs : Bool → List ℕ → List ℕ → Type 0
Occurs fold bytes text = (place : ℕ) × Stands fold bytes text place

-- it does so from some place on that is not before this one
abbrev pub StandsFrom : Bool → List ℕ → List ℕ → ℕ → Type 0
StandsFrom fold bytes text from = (place : ℕ) × (from ≤ place) × Stands fold bytes text place

-- what a plain pattern asks
abbrev pub plain_wanted : Bool → List ℕ → Wanted
plain_wanted true bytes = Listed ((Star ∷ map (literal true) bytes) ++ Star ∷ [])
plain_wanted false bytes = Plain bytes

-- wherever the bytes stand, the one at this place of theirs is one of two
pub record Looks (fold : Bool) (bytes : List ℕ) (rare small big : ℕ) : Type 0 where
  pub within : rare < length bytes
  pub either : (text : List ℕ) (place : ℕ) → Stands fold bytes text place → Passes (is_byte2 small big) text (place + rare)
