-- What a set of bytes has, and the set of a test.
use Rattle.std.specs.Prelude.{◌≡◌, ℕ, ◌<◌, ◌/◌, ◌%◌, ◌==◌, ◌||◌, not, Bool, List, filter, slice_index, if◌then◌else◌}
use Rattle.std.specs.List.{range_with_len}
use Rattle.std.specs.Char.{to_ascii_lowercase, to_ascii_uppercase}
use Rattle.std.specs.Int.{bit_at}
use Rattle.byte_class.specs.declared.byte_set.ByteSet.{ByteSet}

-- whether a byte is in a set
unfoldable pub has : ByteSet → ℕ → Bool
has set byte = bit_at (slice_index set.words (byte / 64)) (byte % 64) == 1

-- the bytes that pass a test, in rising order
unfoldable pub members : (ℕ → Bool) → List ℕ
members test = filter test (range_with_len 0 256)

-- whether a test holds of a byte or, where case is folded, of the byte in either case
unfoldable pub folded : Bool → (ℕ → Bool) → ℕ → Bool
folded fold test byte =
    if fold then test (to_ascii_lowercase byte) || test (to_ascii_uppercase byte) else test byte

-- the set of a test, closed under case and then, where it is asked, complemented
unfoldable pub in_set : Bool → Bool → (ℕ → Bool) → ℕ → Bool
in_set fold complement test byte = if complement then not (folded fold test byte) else folded fold test byte

-- a test holds of this byte and of no other
abbrev pub IsAlone : (ℕ → Bool) → ℕ → Type 0
IsAlone test byte = (byte < 256) × ((other : ℕ) → other < 256 → test other ≡ (other == byte))
