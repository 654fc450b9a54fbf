-- What an item takes.
use Rattle.std.proofs.Common.{◌≡◌, ℕ, ◌<◌, Bool, List, length, get_or, map, IfSome, IsTrue, ◌↔◌, ◌==◌, Some, option_map, slice_get, refl, sym, ap, ◌∙◌, arith}
use Rattle.std.proofs.lemmas.List.{length-map}
use Rattle.std.proofs.lemmas.Option.{slice_get-map, slice_get_read}
use Rattle.glob_match.specs.declared.items.Stored.{Stored}
use Rattle.glob_match.specs.declared.items.Stored.TheVariants.{Byte, Set}
use Rattle.byte_class.specs.declared.byte_set.ByteSet.{ByteSet}
use Rattle.byte_class.specs.ByteSet.{has}
use Rattle.glob_match.specs.Stored.{item_of}
use Rattle.byte_class.specs.ByteSet.{members}
use Rattle.byte_class.proofs.Members.{members_pass, members_with}
use Rattle.glob_match.specs.Item.{Item, OneOf, Takes}

-- a test of a byte against the item at its place
item_takes : (items : List Item) (at : ℕ) (test : ℕ → Bool) (byte : ℕ) (r : Bool) → slice_get items at ≡ Some (OneOf (members test)) → byte < 256 → r ≡ test byte → IfSome (slice_get items at) (λ item. IsTrue r ↔ Takes item byte)
item_takes items at test byte r is fits says = rw is (λ yes. members_with test byte fits (sym says ∙ yes), λ h. says ∙ members_pass test byte h)

item_read : (kept : List Stored) (items : List Item) (at : ℕ) (read x : Stored) → map item_of kept ≡ items → at < length items → read ≡ get_or kept at read → read ≡ x → slice_get items at ≡ Some (item_of x)
item_read kept items at read x view within at_place is =
    let in' : at < length kept = omega (arith, length-map kept item_of, ap (length {A = Item}) view) in
    rw (← view, ← is) (slice_get-map item_of kept at ∙ ap (option_map item_of) (slice_get_read kept (length kept) at read refl in' at_place))

pub byte_takes : (kept : List Stored) (items : List Item) (at byte x : ℕ) (read : Stored) → map item_of kept ≡ items → at < length items → read ≡ get_or kept at read → read ≡ Byte x → byte < 256 → IfSome (slice_get items at) (λ item. IsTrue (byte == x) ↔ Takes item byte)
byte_takes kept items at byte x read view within at_place is fits =
    item_takes items at (λ b. b == x) byte (byte == x) (item_read kept items at read (Byte x) view within at_place is) fits refl

pub set_takes : (kept : List Stored) (items : List Item) (at byte : ℕ) (set : ByteSet) (read : Stored) (r : Bool) → map item_of kept ≡ items → at < length items → read ≡ get_or kept at read → read ≡ Set set → byte < 256 → r ≡ has set byte → IfSome (slice_get items at) (λ item. IsTrue r ↔ Takes item byte)
set_takes kept items at byte set read r view within at_place is fits says =
    item_takes items at (has set) byte r (item_read kept items at read (Set set) view within at_place is) fits says
