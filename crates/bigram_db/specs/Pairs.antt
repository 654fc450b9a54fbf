-- The pairs of bytes that a bigram database writes as one byte, and the table of 128 pairs that it begins with.
use Rattle.std.specs.Prelude.{ℕ, ◌+◌, ◌*◌, Bool, List, [], ◌∷◌, length, take, Option, nat_lt, nat_le, ◌==◌, ◌&&◌, ◌||◌, slice_index}
use Rattle.std.specs.List.{list_all, position}

abbrev pub Pair : Type 0
Pair = ℕ × ℕ

abbrev pub is_same : Pair → Pair → Bool
is_same p q = (p.0 == q.0) && (p.1 == q.1)

-- A text is cut into pairs from its front on. A last odd byte is in none.
abbrev pub pairs_of : List ℕ → List Pair
pairs_of [] = []
pairs_of (a ∷ []) = []
pairs_of (a ∷ b ∷ rest) = (a, b) ∷ pairs_of rest

-- a byte from 32 to 127, which stands for itself
abbrev pub is_plain : ℕ → Bool
is_plain b = nat_le 32 b && nat_lt b 128

-- ---- the table

abbrev pub is_table_byte : ℕ → Bool
is_table_byte b = (b == 0) || is_plain b

-- 128 pairs, of bytes that are 0 or plain
abbrev pub is_table : List ℕ → Bool
is_table bytes = (length bytes == 256) && list_all is_table_byte bytes

-- A file can be a bigram database: it has 256 bytes at least, each of the first 256 is 0 or from 32 to 127.
abbrev pub is_bigram : List ℕ → Bool
is_bigram file = is_table (take 256 file)

-- the pair of this number
abbrev pub pair_at : List ℕ → ℕ → Pair
pair_at table n = (slice_index table (2 * n), slice_index table (2 * n + 1))

-- A pair with a zero byte is not used.
abbrev pub is_used : Pair → Bool
is_used p = nat_lt 0 p.0 && nat_lt 0 p.1

-- the first number of a pair, where the table has the pair
abbrev pub number_of : List ℕ → Pair → Option ℕ
number_of table p = position (is_same p) (pairs_of table)
