-- The items as they are kept.
use Rattle.std.specs.Prelude.{◌==◌}
use Rattle.glob_match.specs.declared.items.Stored.{Stored}
use Rattle.glob_match.specs.declared.items.Stored.TheVariants.{Star as KeptStar, Byte, Set}
use Rattle.byte_class.specs.ByteSet.{has, members}
use Rattle.glob_match.specs.Item.{Item, Star, OneOf}

-- the item that is kept
abbrev pub item_of : Stored → Item
item_of KeptStar = Star
item_of (Byte kept) = OneOf (members (λ byte. byte == kept))
item_of (Set set) = OneOf (members (has set))
