-- One bit out of four words.
use Rattle.std.proofs.Common.{◌≡◌, ◌≢◌, ℕ, zero, suc, ◌-◌, ◌*◌, ◌/◌, ◌%◌, ◌^◌, ◌<◌, Bool, true, false, ◌||◌, ◌==◌, List, [], ◌∷◌, length, get_or, set, w64, refl, sym, arith, ⊎_elim, get_or-set_other, get_or-set_same}
use Rattle.std.specs.Int.{bit_at}
use Rattle.std.specs.Int.Bits.{bit_or}
use Rattle.std.proofs.lemmas.Bool.{cases_eq, eq-eqb, ne_eqb, or_right}
use Rattle.std.proofs.lemmas.Nat.Bits.{bit_at_set_same, bit_at_set_other, bit_at-zero, bit_at_ones}
use Rattle.byte_class.specs.ByteSet.{has}

or_none : (b : Bool) → b ≡ (b || false)
or_none true = refl
or_none false = refl

zero_words : (k : ℕ) → get_or {A = ℕ} (0 ∷ 0 ∷ 0 ∷ 0 ∷ []) k 0 ≡ 0
zero_words zero = refl
zero_words (suc zero) = refl
zero_words (suc (suc zero)) = refl
zero_words (suc (suc (suc zero))) = refl
zero_words (suc (suc (suc (suc k)))) = refl

pub has-zeros : (byte : ℕ) → has (record { words = 0 ∷ 0 ∷ 0 ∷ 0 ∷ [] }) byte ≡ false
unfolding has
has-zeros byte = rw (zero_words (byte / 64), bit_at-zero (byte % 64)) refl

with_bit : List ℕ → ℕ → List ℕ
with_bit words byte = set words (byte / 64) (bit_or (get_or words (byte / 64) 0) (1 * 2 ^ (byte % 64) % 2 ^ 64))

bit_same : (words : List ℕ) (byte : ℕ) → length words ≡ 4 → byte < 256 → bit_at (get_or (with_bit words byte) (byte / 64) 0) (byte % 64) ≡ 1
unfolding with_bit
bit_same words byte four fits =
    let in' : byte / 64 < length words = omega arith in
    rw (get_or-set_same) (bit_at_set_same w64 (get_or words (byte / 64) 0) (byte % 64) (omega arith))

bit_other : (words : List ℕ) (byte other : ℕ) → length words ≡ 4 → byte < 256 → other ≢ byte → bit_at (get_or (with_bit words byte) (other / 64) 0) (other % 64) ≡ bit_at (get_or words (other / 64) 0) (other % 64)
unfolding with_bit
bit_other words byte other four fits ne =
    ⊎_elim
    (λ same.
    let in' : byte / 64 < length words = omega arith in
    rw same (rw get_or-set_same (bit_at_set_other w64 (get_or words (byte / 64) 0) (byte % 64) (omega arith) (other % 64) (λ e. ne (omega arith)))))
    (λ apart. let ne' : other / 64 ≢ byte / 64 = apart in rw get_or-set_other refl)
    (cases_eq (other / 64) (byte / 64))

pub has-with_bit : (words : List ℕ) (byte other : ℕ) → length words ≡ 4 → byte < 256 → has (record { words = set words (byte / 64) (bit_or (get_or words (byte / 64) 0) (1 * 2 ^ (byte % 64) % 18446744073709551616)) }) other ≡ (has (record { words = words }) other || other == byte)
unfolding has with_bit
has-with_bit words byte other four fits =
    ⊎_elim
    (λ same. rw same (rw (bit_same words byte four fits, eq-eqb byte byte refl) (sym (or_right _ true refl))))
    (λ ne. rw (bit_other words byte other four fits ne, ne_eqb other byte ne) (or_none _))
    (cases_eq other byte)

full_words : (k : ℕ) → k < 4 → get_or {A = ℕ} (18446744073709551615 ∷ 18446744073709551615 ∷ 18446744073709551615 ∷ 18446744073709551615 ∷ []) k 0 ≡ 2 ^ 64 - 1
full_words zero h = refl
full_words (suc zero) h = refl
full_words (suc (suc zero)) h = refl
full_words (suc (suc (suc zero))) h = refl
full_words (suc (suc (suc (suc k)))) h = absurd (omega arith)

pub has-ones : (byte : ℕ) → byte < 256 → has (record { words = 18446744073709551615 ∷ 18446744073709551615 ∷ 18446744073709551615 ∷ 18446744073709551615 ∷ [] }) byte ≡ true
unfolding has
has-ones byte fits = rw (full_words (byte / 64) (omega arith), bit_at_ones 64 (byte % 64) (omega arith)) refl
