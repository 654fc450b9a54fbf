-- How a small database and others that differ from it in a few bytes are read, and how its paths are written, computed
-- from the definitions.
use Rattle.std.proofs.Common.{◌≡◌, ℕ, ◌++◌, List, [], ◌∷◌, take, set, Ok, Err, refl}
use Rattle.byte_feed.specs.declared.damage.DamageCause.{DamageCause}
use Rattle.byte_feed.specs.declared.damage.DamageCause.TheVariants.{Cut, EmptyPath, BadCount}
use Rattle.byte_feed.specs.declared.damage.DbFault.TheVariants as faults
use Rattle.byte_feed.specs.Field.{ended_at}
use Rattle.byte_feed.specs.Front.{items_within, items_of}
use Rattle.byte_feed.specs.Endings.{Ending}
use Rattle.byte_feed.specs.Paths.{rest_of, contents}
use Rattle.locate02_db.specs.Items.{long_at, entry_from, word, locate02}
use Rattle.locate02_db.specs.Spelled.{encode02}
use Rattle.locate02_db.proofs.PathPieces.{texts}

-- /usr/src
abbrev src : List ℕ
src = 47 ∷ 117 ∷ 115 ∷ 114 ∷ 47 ∷ 115 ∷ 114 ∷ 99 ∷ []

-- /usr/src/cmd/aardvark.c
abbrev aardvark : List ℕ
aardvark = 47 ∷ 117 ∷ 115 ∷ 114 ∷ 47 ∷ 115 ∷ 114 ∷ 99 ∷ 47 ∷ 99 ∷ 109 ∷ 100 ∷ 47 ∷ 97 ∷ 97 ∷ 114 ∷ 100 ∷ 118 ∷ 97 ∷ 114 ∷ 107 ∷ 46 ∷ 99 ∷ []

-- /usr/src/cmd/armadillo.c
abbrev armadillo : List ℕ
armadillo = 47 ∷ 117 ∷ 115 ∷ 114 ∷ 47 ∷ 115 ∷ 114 ∷ 99 ∷ 47 ∷ 99 ∷ 109 ∷ 100 ∷ 47 ∷ 97 ∷ 114 ∷ 109 ∷ 97 ∷ 100 ∷ 105 ∷ 108 ∷ 108 ∷ 111 ∷ 46 ∷ 99 ∷ []

-- /usr/tmp/zoo
abbrev zoo : List ℕ
zoo = 47 ∷ 117 ∷ 115 ∷ 114 ∷ 47 ∷ 116 ∷ 109 ∷ 112 ∷ 47 ∷ 122 ∷ 111 ∷ 111 ∷ []

-- the database of these four paths, of 58 bytes
abbrev four : List ℕ
four = 0 ∷ 76 ∷ 79 ∷ 67 ∷ 65 ∷ 84 ∷ 69 ∷ 48 ∷ 50 ∷ 0 ∷ 0 ∷ 47 ∷ 117 ∷ 115 ∷ 114 ∷ 47 ∷ 115 ∷ 114 ∷ 99 ∷ 0 ∷ 8 ∷ 47 ∷ 99 ∷ 109 ∷ 100 ∷ 47 ∷ 97 ∷ 97 ∷ 114 ∷ 100 ∷ 118 ∷ 97 ∷ 114 ∷ 107 ∷ 46 ∷ 99 ∷ 0 ∷ 6 ∷ 114 ∷ 109 ∷ 97 ∷ 100 ∷ 105 ∷ 108 ∷ 108 ∷ 111 ∷ 46 ∷ 99 ∷ 0 ∷ 247 ∷ 116 ∷ 109 ∷ 112 ∷ 47 ∷ 122 ∷ 111 ∷ 111 ∷ 0 ∷ []

abbrev reads : List ℕ → List (List ℕ) → Ending → Type 0
reads file paths ending = (texts (contents locate02 file).paths ≡ paths) × ((contents locate02 file).ending ≡ ending)

abbrev damaged : ℕ → DamageCause → Ending
damaged place cause = Err (faults.Damage (record { place = place; cause = cause }))

abbrev no_database : Ending
no_database = Err faults.NotADatabase

written : encode02 (src ∷ aardvark ∷ armadillo ∷ zoo ∷ []) ≡ four
unfolding word
written = refl

whole : reads four (src ∷ aardvark ∷ armadillo ∷ zoo ∷ []) (Ok tt)
unfolding rest_of items_of items_within ended_at long_at entry_from
whole = (refl, refl)

empty_file : reads [] [] no_database
unfolding rest_of items_of items_within ended_at long_at entry_from
empty_file = (refl, refl)

first_9 : reads (take 9 four) [] no_database
unfolding rest_of items_of items_within ended_at long_at entry_from
first_9 = (refl, refl)

first_10 : reads (take 10 four) [] (Ok tt)
unfolding rest_of items_of items_within ended_at long_at entry_from
first_10 = (refl, refl)

first_57 : reads (take 57 four) (src ∷ aardvark ∷ armadillo ∷ []) (damaged 49 Cut)
unfolding rest_of items_of items_within ended_at long_at entry_from
first_57 = (refl, refl)

count_above : reads (set four 37 127) (src ∷ aardvark ∷ []) (damaged 37 BadCount)
unfolding rest_of items_of items_within ended_at long_at entry_from
count_above = (refl, refl)

count_below : reads (set four 49 240) (src ∷ aardvark ∷ armadillo ∷ []) (damaged 49 BadCount)
unfolding rest_of items_of items_within ended_at long_at entry_from
count_below = (refl, refl)

empty_path : reads (four ++ 251 ∷ 0 ∷ []) (src ∷ aardvark ∷ armadillo ∷ zoo ∷ []) (damaged 58 EmptyPath)
unfolding rest_of items_of items_within ended_at long_at entry_from
empty_path = (refl, refl)

one_more : reads (four ++ 0 ∷ 0 ∷ []) (src ∷ aardvark ∷ armadillo ∷ zoo ∷ (take 5 src) ∷ []) (Ok tt)
unfolding rest_of items_of items_within ended_at long_at entry_from
one_more = (refl, refl)

long_form : reads (four ++ 128 ∷ 255 ∷ 251 ∷ 120 ∷ 0 ∷ []) (src ∷ aardvark ∷ armadillo ∷ zoo ∷ (120 ∷ []) ∷ []) (Ok tt)
unfolding rest_of items_of items_within ended_at long_at entry_from word
long_form = (refl, refl)

-- A change that is cut off counts as cut also where no byte behind it would make it good.
hopeless_change : reads (four ++ 128 ∷ 127 ∷ []) (src ∷ aardvark ∷ armadillo ∷ zoo ∷ []) (damaged 58 Cut)
unfolding rest_of items_of items_within ended_at long_at entry_from
hopeless_change = (refl, refl)

hopeless_low : reads (four ++ 128 ∷ 127 ∷ 0 ∷ []) (src ∷ aardvark ∷ armadillo ∷ zoo ∷ []) (damaged 58 BadCount)
unfolding rest_of items_of items_within ended_at long_at entry_from
hopeless_low = (refl, refl)

hopeless_high : reads (four ++ 128 ∷ 127 ∷ 255 ∷ []) (src ∷ aardvark ∷ armadillo ∷ zoo ∷ []) (damaged 58 BadCount)
unfolding rest_of items_of items_within ended_at long_at entry_from
hopeless_high = (refl, refl)
