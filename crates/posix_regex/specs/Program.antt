-- What an expression is compiled into: items in a row, each of which leads to at most two others.
use Rattle.std.specs.Prelude.{ℕ, zero, suc, ◌+◌, List, [], ◌∷◌, ◌++◌, length, Some, None}
use Rattle.byte_class.specs.ByteSet.{has, members}
use Rattle.posix_regex.specs.declared.states.State.{State}
use Rattle.posix_regex.specs.declared.states.State.TheVariants.{Set as KeptSet, Start as KeptStart, End as KeptEnd, Fork as KeptFork, Back as KeptBack, Skip as KeptSkip}
use Rattle.posix_regex.specs.Expression.{Expression, OneOf, Start, End, Empty, Then, Or, Repeat}

-- an item takes one byte of some, holds only at the start or the end of the text, or takes nothing; all but a skip lead to
-- the next item, a fork also to the one so many further, `Back` also to the one so many before; a skip leads to the one so
-- many further alone
pub data Item : Type 0 where
  Takes : List ℕ → Item
  AtStart : Item
  AtEnd : Item
  Fork : ℕ → Item
  Back : ℕ → Item
  Skip : ℕ → Item

-- the items, so many times in a row
abbrev pub copies : ℕ → List Item → List Item
copies zero items = []
copies (suc count) items = items ++ copies count items

-- the items, or none of them
abbrev pub optional : List Item → List Item
optional items = Fork (length items + 1) ∷ items

-- the items, once or more
abbrev pub again : List Item → List Item
again items = items ++ Back (length items) ∷ []

-- the items, at least so many times
abbrev pub at_least : ℕ → List Item → List Item
at_least zero items = optional (again items)
at_least (suc least) items = copies least items ++ again items

-- the items so many times, and at most so many times more
abbrev pub between : ℕ → ℕ → List Item → List Item
between least more items = copies least items ++ copies more (optional items)

-- one row of items or another
abbrev pub either : List Item → List Item → List Item
either first second = optional (first ++ Skip (length second + 1) ∷ []) ++ second

-- the items of an expression
unfoldable pub items_of : Expression → List Item
items_of (OneOf bytes) = Takes bytes ∷ []
items_of Start = AtStart ∷ []
items_of End = AtEnd ∷ []
items_of Empty = []
items_of (Then first second) = items_of first ++ items_of second
items_of (Or first second) = either (items_of first) (items_of second)
items_of (Repeat inner least None) = at_least least (items_of inner)
items_of (Repeat inner least (Some more)) = between least more (items_of inner)

-- the item that a state stands for
abbrev pub item_of : State → Item
item_of (KeptSet set) = Takes (members (has set))
item_of KeptStart = AtStart
item_of KeptEnd = AtEnd
item_of (KeptFork further) = Fork further
item_of (KeptBack before) = Back before
item_of (KeptSkip further) = Skip further
