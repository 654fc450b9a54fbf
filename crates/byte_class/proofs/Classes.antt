-- The tests of std against those of the character classes.
use Rattle.std.proofs.Common.{◌≡◌, ℕ, ◌<◌, ◌||◌, ◌==◌, refl}
use Rattle.std.specs.Char.{is_ascii_alphanumeric, is_ascii_hexdigit, is_ascii_whitespace, is_ascii_control, is_ascii_graphic, is_ascii_punctuation}
use Rattle.std.proofs.lemmas.Bool.{agree_below_at}
use Rattle.byte_class.specs.declared.class.Class.TheVariants.{Alnum, Xdigit, Space, Cntrl, Print, Punct}
use Rattle.byte_class.specs.Class.{class_has}

pub alnum_same : (byte : ℕ) → byte < 256 → is_ascii_alphanumeric byte ≡ class_has Alnum byte
unfolding class_has
alnum_same byte fits = agree_below_at is_ascii_alphanumeric (class_has Alnum) 256 byte refl fits

pub xdigit_same : (byte : ℕ) → byte < 256 → is_ascii_hexdigit byte ≡ class_has Xdigit byte
unfolding class_has
xdigit_same byte fits = agree_below_at is_ascii_hexdigit (class_has Xdigit) 256 byte refl fits

pub space_same : (byte : ℕ) → byte < 256 → (is_ascii_whitespace byte || byte == 11) ≡ class_has Space byte
unfolding class_has
space_same byte fits = agree_below_at (λ b. is_ascii_whitespace b || b == 11) (class_has Space) 256 byte refl fits

pub cntrl_same : (byte : ℕ) → byte < 256 → is_ascii_control byte ≡ class_has Cntrl byte
unfolding class_has
cntrl_same byte fits = agree_below_at is_ascii_control (class_has Cntrl) 256 byte refl fits

pub print_same : (byte : ℕ) → byte < 256 → (is_ascii_graphic byte || byte == 32) ≡ class_has Print byte
unfolding class_has
print_same byte fits = agree_below_at (λ b. is_ascii_graphic b || b == 32) (class_has Print) 256 byte refl fits

pub punct_same : (byte : ℕ) → byte < 256 → is_ascii_punctuation byte ≡ class_has Punct byte
unfolding class_has
punct_same byte fits = agree_below_at is_ascii_punctuation (class_has Punct) 256 byte refl fits

pub ruleset class_tests = (alnum_same, xdigit_same, space_same, cntrl_same, print_same, punct_same)
