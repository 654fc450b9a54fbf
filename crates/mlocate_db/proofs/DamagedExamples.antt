-- A small database and its items, how it ends, and how others end that differ from it in a few bytes, computed from the
-- definitions.
use Rattle.std.proofs.Common.{◌≡◌, ℕ, true, ◌++◌, List, [], ◌∷◌, take, drop, set, replicate, Ok, Err, refl}
use Rattle.byte_feed.specs.declared.damage.DamageCause.{DamageCause}
use Rattle.byte_feed.specs.declared.damage.DamageCause.TheVariants.{Cut, BadVersion, BadFlag, BadNanos, EmptyPath, BadKind, EmptyName, LongPath}
use Rattle.byte_feed.specs.declared.damage.DbFault.TheVariants as faults
use Rattle.byte_feed.specs.declared.damage.Stop.TheVariants.{Broken}
use Rattle.byte_feed.specs.Field.{ended_at}
use Rattle.byte_feed.specs.Front.{front, items_within, items_of, spelling}
use Rattle.byte_feed.specs.Endings.{Ending}
use Rattle.byte_feed.specs.Paths.{rest_of, contents}
use Rattle.mlocate_db.specs.Items.{fixed_at, header_at, numbers_at, head_at, entry_at, room_in, number, Item, HeaderItem, HeadItem, EndItem, mlocate}

-- the database of a root directory with nothing in it, of 91 bytes
abbrev small : List ℕ
small = 0 ∷ 109 ∷ 108 ∷ 111 ∷ 99 ∷ 97 ∷ 116 ∷ 101 ∷ 0 ∷ 0 ∷ 0 ∷ 54 ∷ 0 ∷ 1 ∷ 0 ∷ 0 ∷ 47 ∷ 0 ∷ 112 ∷ 114 ∷ 117 ∷ 110 ∷ 101 ∷ 95 ∷ 98 ∷ 105 ∷ 110 ∷ 100 ∷ 95 ∷ 109 ∷ 111 ∷ 117 ∷ 110 ∷ 116 ∷ 115 ∷ 0 ∷ 48 ∷ 0 ∷ 0 ∷ 112 ∷ 114 ∷ 117 ∷ 110 ∷ 101 ∷ 102 ∷ 115 ∷ 0 ∷ 0 ∷ 112 ∷ 114 ∷ 117 ∷ 110 ∷ 101 ∷ 110 ∷ 97 ∷ 109 ∷ 101 ∷ 115 ∷ 0 ∷ 0 ∷ 112 ∷ 114 ∷ 117 ∷ 110 ∷ 101 ∷ 112 ∷ 97 ∷ 116 ∷ 104 ∷ 115 ∷ 0 ∷ 0 ∷ 0 ∷ 0 ∷ 0 ∷ 0 ∷ 0 ∷ 0 ∷ 3 ∷ 232 ∷ 0 ∷ 0 ∷ 0 ∷ 0 ∷ 0 ∷ 0 ∷ 0 ∷ 0 ∷ 47 ∷ 0 ∷ 2 ∷ []

abbrev ends : List ℕ → Ending
ends file = (contents mlocate file).ending

abbrev damaged : ℕ → DamageCause → Ending
damaged place cause = Err (faults.Damage (record { place = place; cause = cause }))

abbrev no_database : Ending
no_database = Err faults.NotADatabase

-- its items
abbrev small_items : List Item
small_items = HeaderItem (record { version = 0; flag = true; padding = 0; root = 47 ∷ []; block = take 54 (drop 18 small) }) ∷ HeadItem (record { seconds = 1000; nanos = 0; device = 0; path = 47 ∷ [] }) ∷ EndItem ∷ []

spelled_so : spelling mlocate small_items ≡ small
unfolding number
spelled_so = refl

read_so : front mlocate small ≡ small_items
unfolding items_of items_within ended_at fixed_at header_at numbers_at head_at entry_at number
read_so = refl

whole : ends small ≡ Ok tt
unfolding rest_of items_of items_within ended_at fixed_at header_at numbers_at head_at entry_at number
whole = refl

whole_version_1 : ends (set small 12 1) ≡ Ok tt
unfolding rest_of items_of items_within ended_at fixed_at header_at numbers_at head_at entry_at number
whole_version_1 = refl

no_paths : (contents mlocate small).paths ≡ []
unfolding rest_of items_of items_within ended_at fixed_at header_at numbers_at head_at entry_at number
no_paths = refl

empty_file : ends [] ≡ no_database
unfolding rest_of items_of items_within ended_at fixed_at header_at numbers_at head_at entry_at number
empty_file = refl

first_7 : ends (take 7 small) ≡ no_database
unfolding rest_of items_of items_within ended_at fixed_at header_at numbers_at head_at entry_at number
first_7 = refl

first_20 : ends (take 20 small) ≡ damaged 0 Cut
unfolding rest_of items_of items_within ended_at fixed_at header_at numbers_at head_at entry_at number
first_20 = refl

version_2 : ends (set small 12 2) ≡ damaged 0 BadVersion
unfolding rest_of items_of items_within ended_at fixed_at header_at numbers_at head_at entry_at number
version_2 = refl

flag_7 : ends (set small 13 7) ≡ damaged 0 BadFlag
unfolding rest_of items_of items_within ended_at fixed_at header_at numbers_at head_at entry_at number
flag_7 = refl

first_72 : ends (take 72 small) ≡ Ok tt
unfolding rest_of items_of items_within ended_at fixed_at header_at numbers_at head_at entry_at number
first_72 = refl

first_80 : ends (take 80 small) ≡ damaged 72 Cut
unfolding rest_of items_of items_within ended_at fixed_at header_at numbers_at head_at entry_at number
first_80 = refl

nanos : ends (take 80 small ++ (59 ∷ 154 ∷ 202 ∷ 0 ∷ drop 84 small)) ≡ damaged 72 BadNanos
unfolding rest_of items_of items_within ended_at fixed_at header_at numbers_at head_at entry_at number
nanos = refl

most_nanos : ends (take 80 small ++ (59 ∷ 154 ∷ 201 ∷ 255 ∷ drop 84 small)) ≡ Ok tt
unfolding rest_of items_of items_within ended_at fixed_at header_at numbers_at head_at entry_at number
most_nanos = refl

empty_path : ends (set small 88 0) ≡ damaged 72 EmptyPath
unfolding rest_of items_of items_within ended_at fixed_at header_at numbers_at head_at entry_at number
empty_path = refl

first_90 : ends (take 90 small) ≡ damaged 90 Cut
unfolding rest_of items_of items_within ended_at fixed_at header_at numbers_at head_at entry_at number
first_90 = refl

kind_3 : ends (set small 90 3) ≡ damaged 90 BadKind
unfolding rest_of items_of items_within ended_at fixed_at header_at numbers_at head_at entry_at number
kind_3 = refl

empty_name : ends (set small 90 0 ++ 0 ∷ 2 ∷ []) ≡ damaged 90 EmptyName
unfolding rest_of items_of items_within ended_at fixed_at header_at numbers_at head_at entry_at number
empty_name = refl

-- ---- a directory whose entries have no room

no_room : (room_in (replicate 4094 97) ≡ 1) × (room_in (replicate 4095 97) ≡ 0) × (room_in (replicate 4096 97) ≡ 0)
no_room = (refl, refl, refl)

no_room_for_name : (entry_at 0 (0 ∷ 0 ∷ 2 ∷ []) ≡ Err (Broken EmptyName)) × (entry_at 0 (0 ∷ 97 ∷ []) ≡ Err (Broken LongPath)) × (entry_at 0 (1 ∷ []) ≡ Err (Broken Cut)) × (entry_at 0 (2 ∷ []) ≡ Ok (EndItem, []))
unfolding ended_at entry_at
no_room_for_name = (refl, refl, refl, refl)

-- ---- of two broken rules the first is told, and it does not wait for what follows

nanoseconds_before_the_path : ends (set (set (set (set (set small 80 59) 81 154) 82 202) 83 0) 88 0) ≡ damaged 72 BadNanos
unfolding rest_of items_of items_within ended_at fixed_at header_at numbers_at head_at entry_at number
nanoseconds_before_the_path = refl

nanoseconds_at_the_end : ends (take 84 (set (set (set (set small 80 59) 81 154) 82 202) 83 0)) ≡ damaged 72 BadNanos
unfolding rest_of items_of items_within ended_at fixed_at header_at numbers_at head_at entry_at number
nanoseconds_at_the_end = refl

version_before_the_flag : ends (set (set small 12 2) 13 7) ≡ damaged 0 BadVersion
unfolding rest_of items_of items_within ended_at fixed_at header_at numbers_at head_at entry_at number
version_before_the_flag = refl

version_at_the_end : ends (take 14 (set small 12 2)) ≡ damaged 0 BadVersion
unfolding rest_of items_of items_within ended_at fixed_at header_at numbers_at head_at entry_at number
version_at_the_end = refl
