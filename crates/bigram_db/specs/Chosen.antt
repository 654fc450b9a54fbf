-- The table that is chosen for a list of paths.
use Rattle.std.specs.Prelude.{ℕ, Bool, List, [], ◌∷◌, ◌++◌, take, drop, map, filter, count_by, replicate, nat_lt, ◌==◌, ◌&&◌, ◌||◌, if◌then◌else◌}
use Rattle.std.specs.List.{flat_map, range_with_len}
use Rattle.bigram_db.specs.Pairs.{Pair, is_same, pairs_of, is_plain}
use Rattle.byte_feed.specs.Prefix.{common_prefix}
use Rattle.bigram_db.specs.Spelled.{encode_with}

-- ---- how often a pair comes

-- what is left of each path behind the longest prefix that it shares with the path before
abbrev pub remainders : List ℕ → List (List ℕ) → List (List ℕ)
remainders before [] = []
remainders before (path ∷ paths) = drop (common_prefix before path) path ∷ remainders path paths

-- the last of these paths, which come after another
abbrev pub path_before : List ℕ → List (List ℕ) → List ℕ
path_before before [] = before
path_before before (path ∷ paths) = path_before path paths

-- A pair counts where both its bytes are plain.
abbrev pub is_counted : Pair → Bool
is_counted p = is_plain p.0 && is_plain p.1

-- the pairs of a text that count
abbrev pub counted_in : List ℕ → List Pair
counted_in text = filter is_counted (pairs_of text)

-- the pairs that count in what is left of a path behind another
abbrev pub counted_behind : List ℕ → List ℕ → List Pair
counted_behind before path = counted_in (drop (common_prefix before path) path)

abbrev pub counted : List (List ℕ) → List Pair
counted paths = flat_map counted_in (remainders [] paths)

-- how often a pair is among these
abbrev pub times : List Pair → Pair → ℕ
times pairs p = count_by (is_same p) pairs

-- ---- which pairs are taken

abbrev pub is_smaller : Pair → Pair → Bool
is_smaller p q = nat_lt p.0 q.0 || ((p.0 == q.0) && nat_lt p.1 q.1)

-- by falling count, ties to the smaller pair by bytes
abbrev pub comes_before : (Pair → ℕ) → Pair → Pair → Bool
comes_before count p q = nat_lt (count q) (count p) || ((count p == count q) && is_smaller p q)

-- an element in its place among others that are in order
abbrev pub placed : {X : Type 0} → (X → X → Bool) → X → List X → List X
placed first x [] = x ∷ []
placed first x (y ∷ ys) = if first x y then x ∷ y ∷ ys else y ∷ placed first x ys

-- elements in order
abbrev pub in_order : {X : Type 0} → (X → X → Bool) → List X → List X
in_order first [] = []
in_order first (x ∷ xs) = placed first x (in_order first xs)

-- the bytes from 32 to 127
abbrev pub plain_bytes : List ℕ
plain_bytes = range_with_len 32 96

-- all pairs that can count
unfoldable pub all_pairs : List Pair
all_pairs = flat_map (λ a. map (λ b. (a, b)) plain_bytes) plain_bytes

-- the pairs that come at all, in order
abbrev pub ranked : (Pair → ℕ) → List Pair
ranked count = in_order (comes_before count) (filter (λ p. nat_lt 0 (count p)) all_pairs)

abbrev pub pair_bytes : Pair → List ℕ
pair_bytes p = p.0 ∷ p.1 ∷ []

-- the first 256 bytes, and zero bytes in place of what lacks
unfoldable pub padded : List ℕ → List ℕ
padded bytes = take 256 (bytes ++ replicate 256 0)

-- the first 128 of them
abbrev pub chosen : (Pair → ℕ) → List ℕ
chosen count = padded (flat_map pair_bytes (ranked count))

-- the table for a list of paths
abbrev pub table_for : List (List ℕ) → List ℕ
table_for paths = chosen (times (counted paths))

-- the file that is written for a list of paths
abbrev pub encode_bigram : List (List ℕ) → List ℕ
encode_bigram paths = encode_with (table_for paths) paths
