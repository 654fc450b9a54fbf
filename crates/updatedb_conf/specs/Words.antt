-- Words, and sets of them. updatedb.conf(5) says "white space"; that byte 0 is such is this project's reading.
use Rattle.std.specs.Prelude.{ℕ, ◌+◌, ◌==◌, Bool, true, false, ◌||◌, List, [], ◌∷◌, ◌++◌, length, map, filter}
use Rattle.std.specs.List.{slice_split}
use Rattle.std.specs.Char.{to_ascii_uppercase}
use Rattle.std.specs.Ordering.{nat_cmp}
use Rattle.std.specs.Cmp.Lexicographic.{slice_cmp}
use Rattle.std.specs.FinMap.{FinMap, from_entries, contains_key, keys}

-- white space: space, tab, carriage return, vertical tab, form feed and byte 0
unfoldable pub is_blank : ℕ → Bool
is_blank byte = byte == 32 || (byte == 9 || (byte == 13 || (byte == 11 || (byte == 12 || byte == 0))))

-- the end of a line
abbrev pub is_newline : ℕ → Bool
is_newline byte = byte == 10

-- what stands between words: white space and newlines
abbrev pub is_space : ℕ → Bool
is_space byte = is_blank byte || is_newline byte

-- a text that has a byte
abbrev pub is_nonempty : List ℕ → Bool
is_nonempty [] = false
is_nonempty (byte ∷ rest) = true

-- the words of a text in order: what stands between spaces, where that is not empty
unfoldable pub words : List ℕ → List (List ℕ)
words text = filter is_nonempty (slice_split is_space text)

-- a text in ASCII upper case
abbrev pub upper : List ℕ → List ℕ
upper text = map to_ascii_uppercase text

-- a finite set of words in byte order, as the library's `FinSet` is one: a finite map with nothing at each word
abbrev pub WordSet : Type 0
WordSet = FinMap (slice_cmp nat_cmp) (Unit {0})

-- the words of a set in byte order, each once
abbrev pub members : WordSet → List (List ℕ)
members set = keys set

-- a word is in a set
abbrev pub has : WordSet → List ℕ → Bool
has set word = contains_key set word

-- words with nothing at each
abbrev pub marked : List (List ℕ) → List (List ℕ × Unit {0})
marked words = map (λ word. (word, tt {0})) words

-- the set of these words
abbrev pub set_of : List (List ℕ) → WordSet
set_of words = from_entries (marked words)

-- a set and more words
abbrev pub joined : WordSet → List (List ℕ) → WordSet
joined set words = set_of (members set ++ words)

-- the bytes of these words, and one more for each
abbrev pub room_of : List (List ℕ) → ℕ
room_of [] = 0
room_of (word ∷ words) = length word + 1 + room_of words

-- the same of the words of a set
abbrev pub set_room : WordSet → ℕ
set_room set = room_of (members set)
