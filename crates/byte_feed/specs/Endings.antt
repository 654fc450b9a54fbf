-- How a file ends.
use Rattle.std.specs.Prelude.{◌≡◌, ℕ, Bool, true, false, not, List, [], length, Result, Ok, Err, ◌==◌, ◌&&◌, if◌then◌else◌, ⊤}
use Rattle.byte_feed.specs.declared.damage.DamageCause.TheVariants.{Cut}
use Rattle.byte_feed.specs.declared.damage.DbFault.{DbFault}
use Rattle.byte_feed.specs.declared.damage.DbFault.TheVariants as faults
use Rattle.byte_feed.specs.declared.damage.Break.{Break}
use Rattle.byte_feed.specs.declared.damage.Break.TheVariants as breaks
use Rattle.byte_feed.specs.declared.damage.Stop.{Stop}
use Rattle.byte_feed.specs.declared.damage.Stop.TheVariants.{NotADatabase, Broken}
use Rattle.byte_feed.specs.Front.{Format, limit}
use Rattle.byte_feed.specs.Feed.{FeedState, reach}
use Rattle.byte_feed.specs.Stream.{is_cut}

-- how a file ends: whole, or with a fault
abbrev pub Ending : Type 0
Ending = Result (Unit {0}) DbFault

abbrev pub damage_at : ℕ → Stop → DbFault
damage_at place NotADatabase = faults.NotADatabase
damage_at place (Broken cause) = faults.Damage (record { place = place; cause = cause })

-- A need for a byte past the last one that may be read: the file goes on past it, or is cut off.
abbrev pub fault_of : ℕ → Bool → Stop → DbFault
fault_of place more s = if is_cut s && more then faults.TooLarge else damage_at place s

-- The first case is never asked: an item that is whole belongs to the front, and behind the front none stands.
abbrev pub end_by : {A : Type 0} → ℕ → Bool → Result A Stop → Ending
end_by place more (Ok x) = Ok tt
end_by place more (Err s) = Err (fault_of place more s)

-- How the file ends where the front has this length and leaves this state, and these bytes stand after it.
abbrev pub end_at : (f : Format) → ℕ → f.State → List ℕ → Bool → Ending
end_at f place s bytes more =
    if f.may_end s && (length bytes == 0)
    then (if more then Err faults.TooLarge else Ok tt)
    else end_by place more (f.item_at (not more) s bytes)

abbrev pub is_read_fault : Ending → Bool
is_read_fault (Err faults.ReadFault) = true
is_read_fault ending = false

-- Where a file that ends so was left: all of it was read, or all below the limit, or it is damaged at this place.
abbrev pub StopsAt : FeedState → ℕ → Ending → Type 0
StopsAt f place (Ok x) = (f.held ≡ []) × (f.ended ≡ true)
StopsAt f place (Err faults.NotADatabase) = ⊤
StopsAt f place (Err faults.ReadFault) = ⊤
StopsAt f place (Err faults.TooLarge) = reach f ≡ limit
StopsAt f place (Err (faults.Damage d)) = (d.place ≡ place) × (d.cause ≡ Cut → f.ended ≡ true)

-- what breaks off reading the item at this place
abbrev pub fault_at : ℕ → Break → DbFault
fault_at place breaks.ReadFault = faults.ReadFault
fault_at place breaks.TooLarge = faults.TooLarge
fault_at place (breaks.Stopped s) = damage_at place s
