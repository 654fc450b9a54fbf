-- The bytes that pass a test.
use Rattle.std.proofs.Common.{◌≡◌, ℕ, zero, suc, ◌+◌, ◌<◌, Bool, true, false, not, List, [], ◌∷◌, length, get_or, filter, cond, Contains, refl, ap, ◌∙◌, arith}
use Rattle.std.specs.List.{range_with_len}
use Rattle.std.proofs.lemmas.List.Elements.{All-contains, filter_passes}
use Rattle.std.proofs.lemmas.List.FromFn.{length-range_with_len, get_or-range_with_len}
use Rattle.std.specs.Char.{to_ascii_lowercase, to_ascii_uppercase}
use Rattle.std.proofs.lemmas.Bool.Decides.{nat_tests}
use Rattle.byte_class.specs.ByteSet.{members, folded, in_set}

pub members_pass : (test : ℕ → Bool) (byte : ℕ) → Contains (members test) byte → test byte ≡ true
unfolding members
members_pass test byte h = All-contains (λ x. test x ≡ true) (filter test (range_with_len 0 256)) byte (filter_passes test (range_with_len 0 256)) h

later : (x y : ℕ) (ys : List ℕ) → Contains ys x → Contains (y ∷ ys) x
later x y ys h = (suc h.0, omega (arith, h.1), h.2)

kept_head : (test : ℕ → Bool) (x y : ℕ) (ys : List ℕ) → y ≡ x → test x ≡ true → Contains (filter test (y ∷ ys)) x
kept_head test x y ys same passes = rw (ap test same ∙ passes) (0, omega arith, same)

kept_tail : (test : ℕ → Bool) (x y : ℕ) (ys : List ℕ) (b : Bool) → Contains (filter test ys) x → Contains (cond b (y ∷ filter test ys) (filter test ys)) x
kept_tail test x y ys true h = later x y (filter test ys) h
kept_tail test x y ys false h = h

kept_at : (test : ℕ → Bool) (xs : List ℕ) (x k : ℕ) → k < length xs → get_or xs k x ≡ x → test x ≡ true → Contains (filter test xs) x
kept_at test [] x k within is passes = absurd (omega arith)
kept_at test (y ∷ ys) x zero within is passes = kept_head test x y ys is passes
kept_at test (y ∷ ys) x (suc k) within is passes = kept_tail test x y ys (test y) (kept_at test ys x k (omega arith) is passes)

pub members_with : (test : ℕ → Bool) (byte : ℕ) → byte < 256 → test byte ≡ true → Contains (members test) byte
unfolding members
members_with test byte fits passes = kept_at test (range_with_len 0 256) byte byte (omega (arith, length-range_with_len 0 256)) (get_or-range_with_len 0 256 byte byte fits ∙ omega arith) passes

agree_on : (p q : ℕ → Bool) (a n : ℕ) → ((byte : ℕ) → byte < a + n → p byte ≡ q byte) → filter p (range_with_len a n) ≡ filter q (range_with_len a n)
agree_on p q a zero h = refl
agree_on p q a (suc n) h = rw (h a (omega arith), agree_on p q (a + 1) n (λ byte lt. h byte (omega arith))) refl

-- two tests that agree at each byte have the same members
pub members_agree : (p q : ℕ → Bool) → ((byte : ℕ) → byte < 256 → p byte ≡ q byte) → members p ≡ members q
unfolding members
members_agree p q h = agree_on p q 0 256 h

lower_fits : (byte : ℕ) → byte < 256 → to_ascii_lowercase byte < 256
lower_fits byte fits = grind (arith, nat_tests)

upper_fits : (byte : ℕ) → byte < 256 → to_ascii_uppercase byte < 256
upper_fits byte fits = grind (arith, nat_tests)

-- a test of a byte in either case asks of bytes alone
folded_agree : (fold : Bool) (p q : ℕ → Bool) → ((byte : ℕ) → byte < 256 → p byte ≡ q byte) → (byte : ℕ) → byte < 256 → folded fold p byte ≡ folded fold q byte
unfolding folded
folded_agree false p q h byte fits = h byte fits
folded_agree true p q h byte fits = rw (h (to_ascii_lowercase byte) (lower_fits byte fits), h (to_ascii_uppercase byte) (upper_fits byte fits)) refl

pub in_set_agree : (fold complement : Bool) (p q : ℕ → Bool) → ((byte : ℕ) → byte < 256 → p byte ≡ q byte) → (byte : ℕ) → byte < 256 → in_set fold complement p byte ≡ in_set fold complement q byte
unfolding in_set
in_set_agree fold complement p q h byte fits = ap (λ b. cond complement (not b) b) (folded_agree fold p q h byte fits)
