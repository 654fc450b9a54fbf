-- Numbers as bytes, big endian, and back.
use Rattle.std.proofs.Common.{◌≡◌, ℕ, zero, suc, ◌+◌, ◌*◌, ◌/◌, ◌%◌, ◌^◌, ◌<◌, ◌≤◌, List, [], ◌∷◌, ◌++◌, length, take, drop, refl, sym, ap, ◌∙◌, arith}
use Rattle.std.proofs.Math.Nat.{div-one, mod-eq_of_lt, mul-add-mod_self_right, mul-add-div_right, mul_assoc, one-le-pow, pow-succ'}
use Rattle.std.proofs.lemmas.Nat.{div-mul-add}
use Rattle.std.proofs.lemmas.List.{take-append-drop}
use Rattle.std.specs.Int.{byte_at, bytes_high_first}
use Rattle.byteorder.specs.Endian.{big_from, big_number, big_bytes}
use Rattle.byteorder.specs.Numbers.{big_from-cons, big_from-lt, big_number-reads_back, length-bytes_high_first}
use Rattle.byte_feed.specs.Front.{IsBytes}

byte_at-pow : (k n : ℕ) → byte_at k n ≡ n / 256 ^ k % 256
byte_at-pow zero n = ap (λ (m : ℕ). m % 256) (sym (div-one n))
byte_at-pow (suc k) n = refl

pow_above : (k : ℕ) → 0 < 256 ^ k
pow_above k = let low = one-le-pow k 256 (omega arith) in omega (arith, low)

-- what stands above the last k bytes of a number changes nothing in them
low_bytes : (k a r : ℕ) → bytes_high_first k (a * 256 ^ k + r) ≡ bytes_high_first k r
low_bytes zero a r = refl
low_bytes (suc k) a r =
    let split : a * 256 ^ suc k + r ≡ a * 256 * 256 ^ k + r = ap (λ (p : ℕ). a * p + r) (pow-succ' 256 k) ∙ ap (λ (p : ℕ). p + r) (sym (mul_assoc a 256 (256 ^ k))) in
    let first : byte_at k (a * 256 * 256 ^ k + r) ≡ byte_at k r =
    byte_at-pow k (a * 256 * 256 ^ k + r) ∙ ap (λ (q : ℕ). q % 256) (mul-add-div_right (pow_above k) (a * 256) r) ∙ mul-add-mod_self_right a 256 (r / 256 ^ k) ∙ sym (byte_at-pow k r) in
    rw (split, first, low_bytes k (a * 256) r) refl

first_byte : (k x r : ℕ) → x < 256 → r < 256 ^ k → byte_at k (x * 256 ^ k + r) ≡ x
first_byte k x r small low = byte_at-pow k (x * 256 ^ k + r) ∙ ap (λ (q : ℕ). q % 256) (div-mul-add x (256 ^ k) r low) ∙ mod-eq_of_lt small

IsBytes-rest : (x : ℕ) (xs : List ℕ) → IsBytes (x ∷ xs) → IsBytes xs
IsBytes-rest x xs small i = small (suc i)

-- the bytes of the number that was read are those that it was read from
pub big_bytes-number : (k : ℕ) (bytes : List ℕ) → IsBytes bytes → k ≤ length bytes → big_bytes k (big_number k bytes) ≡ take k bytes
big_bytes-number zero bytes small fits = refl
big_bytes-number (suc k) [] small fits = absurd (omega arith)
big_bytes-number (suc k) (x ∷ xs) small fits =
    let rest = IsBytes-rest x xs small in
    let r : ℕ = big_from 0 k xs in
    let whole : big_from 0 (suc k) (x ∷ xs) ≡ x * 256 ^ k + r = ap (λ (m : ℕ). x * 256 ^ k + m) (big_from-cons 0 k x xs) in
    rw (whole, first_byte k x r (small 0) (big_from-lt 0 k xs rest), low_bytes k x r, big_bytes-number k xs rest (omega arith)) refl

pub big_bytes-whole : (k : ℕ) (bytes : List ℕ) → IsBytes bytes → k ≤ length bytes → bytes ≡ big_bytes k (big_number k bytes) ++ drop k bytes
big_bytes-whole k bytes small fits = sym (ap (λ (front : List ℕ). front ++ drop k bytes) (big_bytes-number k bytes small fits) ∙ take-append-drop k bytes)

pub big_number-lt : (k : ℕ) (bytes : List ℕ) → IsBytes bytes → big_number k bytes < 256 ^ k
big_number-lt k bytes small = big_from-lt 0 k bytes small

pub big_number-again : (k n : ℕ) (rest : List ℕ) → n < 256 ^ k → big_number k (big_bytes k n ++ rest) ≡ n
big_number-again k n rest low = big_number-reads_back k n rest low

pub length-big_bytes : (k n : ℕ) → length (big_bytes k n) ≡ k
length-big_bytes k n = length-bytes_high_first k n
