-- How the database of one path and others that differ from it in a few bytes are read, and how it is written, computed
-- from the definitions.
use Rattle.std.proofs.Common.{◌≡◌, ℕ, ◌++◌, List, [], ◌∷◌, map, take, set, Ok, Err, refl}
use Rattle.std.specs.Prelude.{replicate}
use Rattle.byte_feed.specs.declared.damage.DamageCause.{DamageCause}
use Rattle.byte_feed.specs.declared.damage.DamageCause.TheVariants.{Cut, EmptyPath, BadCount, NoCount, EmptyPair, BadWord, ZeroChar}
use Rattle.byte_feed.specs.declared.damage.DbFault.TheVariants as faults
use Rattle.byte_feed.specs.Front.{items_within, items_of}
use Rattle.byte_feed.specs.Endings.{Ending}
use Rattle.byte_feed.specs.Paths.{PathAt, rest_of, contents}
use Rattle.bigram_db.specs.Items.{table_at, count_at, word_value, unit_fitting, units_within, units_at, entry_at, bigram}
use Rattle.bigram_db.specs.Spelled.{encode_with}

-- /a
abbrev a : List ℕ
a = 47 ∷ 97 ∷ []

-- a table of one pair, that of /a
abbrev table : List ℕ
table = 47 ∷ 97 ∷ replicate 254 0

-- the database of /a, of 258 bytes
abbrev one : List ℕ
one = table ++ 14 ∷ 128 ∷ []

abbrev reads : List ℕ → List (List ℕ) → Ending → Type 0
reads file paths ending = (map (λ (p : PathAt). p.text) (contents bigram file).paths ≡ paths) × ((contents bigram file).ending ≡ ending)

abbrev damaged : ℕ → DamageCause → Ending
damaged place cause = Err (faults.Damage (record { place = place; cause = cause }))

abbrev no_database : Ending
no_database = Err faults.NotADatabase

written : encode_with table (a ∷ []) ≡ one
written = refl

whole : reads one (a ∷ []) (Ok tt)
unfolding rest_of items_of items_within table_at count_at word_value unit_fitting units_within units_at entry_at
whole = (refl, refl)

empty_file : reads [] [] no_database
unfolding rest_of items_of items_within table_at count_at word_value unit_fitting units_within units_at entry_at
empty_file = (refl, refl)

first_255 : reads (take 255 one) [] no_database
unfolding rest_of items_of items_within table_at count_at word_value unit_fitting units_within units_at entry_at
first_255 = (refl, refl)

no_table_byte : reads (set one 5 7) [] no_database
unfolding rest_of items_of items_within table_at count_at word_value unit_fitting units_within units_at entry_at
no_table_byte = (refl, refl)

first_256 : reads (take 256 one) [] (Ok tt)
unfolding rest_of items_of items_within table_at count_at word_value unit_fitting units_within units_at entry_at
first_256 = (refl, refl)

first_257 : reads (take 257 one) [] (damaged 256 EmptyPath)
unfolding rest_of items_of items_within table_at count_at word_value unit_fitting units_within units_at entry_at
first_257 = (refl, refl)

no_count : reads (set one 256 31) [] (damaged 256 NoCount)
unfolding rest_of items_of items_within table_at count_at word_value unit_fitting units_within units_at entry_at
no_count = (refl, refl)

unused_pair : reads (set one 257 129) [] (damaged 256 EmptyPair)
unfolding rest_of items_of items_within table_at count_at word_value unit_fitting units_within units_at entry_at
unused_pair = (refl, refl)

one_more : reads (one ++ 16 ∷ 98 ∷ []) (a ∷ (a ++ 98 ∷ []) ∷ []) (Ok tt)
unfolding rest_of items_of items_within table_at count_at word_value unit_fitting units_within units_at entry_at
one_more = (refl, refl)

count_above : reads (one ++ 17 ∷ 98 ∷ []) (a ∷ []) (damaged 258 BadCount)
unfolding rest_of items_of items_within table_at count_at word_value unit_fitting units_within units_at entry_at
count_above = (refl, refl)

word_cut : reads (one ++ 30 ∷ 0 ∷ 0 ∷ []) (a ∷ []) (damaged 258 Cut)
unfolding rest_of items_of items_within table_at count_at word_value unit_fitting units_within units_at entry_at
word_cut = (refl, refl)

bad_word : reads (one ++ 30 ∷ 15 ∷ 39 ∷ 0 ∷ 0 ∷ []) (a ∷ []) (damaged 258 BadWord)
unfolding rest_of items_of items_within table_at count_at word_value unit_fitting units_within units_at entry_at
bad_word = (refl, refl)

big_endian : reads (one ++ 30 ∷ 0 ∷ 0 ∷ 0 ∷ 14 ∷ 98 ∷ []) (a ∷ (98 ∷ []) ∷ []) (Ok tt)
unfolding rest_of items_of items_within table_at count_at word_value unit_fitting units_within units_at entry_at
big_endian = (refl, refl)

zero_char : reads (one ++ 14 ∷ 31 ∷ 0 ∷ []) (a ∷ []) (damaged 258 ZeroChar)
unfolding rest_of items_of items_within table_at count_at word_value unit_fitting units_within units_at entry_at
zero_char = (refl, refl)

escape_cut : reads (one ++ 14 ∷ 31 ∷ []) (a ∷ []) (damaged 258 Cut)
unfolding rest_of items_of items_within table_at count_at word_value unit_fitting units_within units_at entry_at
escape_cut = (refl, refl)

-- A word that is cut off counts as cut also where no byte behind it would make it good.
hopeless_word : reads (one ++ 30 ∷ 127 ∷ 127 ∷ 127 ∷ []) (a ∷ []) (damaged 258 Cut)
unfolding rest_of items_of items_within table_at count_at word_value unit_fitting units_within units_at entry_at
hopeless_word = (refl, refl)

hopeless_low : reads (one ++ 30 ∷ 127 ∷ 127 ∷ 127 ∷ 0 ∷ []) (a ∷ []) (damaged 258 BadWord)
unfolding rest_of items_of items_within table_at count_at word_value unit_fitting units_within units_at entry_at
hopeless_low = (refl, refl)

hopeless_high : reads (one ++ 30 ∷ 127 ∷ 127 ∷ 127 ∷ 255 ∷ []) (a ∷ []) (damaged 258 BadWord)
unfolding rest_of items_of items_within table_at count_at word_value unit_fitting units_within units_at entry_at
hopeless_high = (refl, refl)
