-- Escapes, one after another.
use Rattle.std.proofs.Common.{◌≡◌, ◌≢◌, ◌⊎◌, ℕ, zero, suc, ◌+◌, ◌*◌, ◌-◌, ◌<◌, ◌≤◌, List, [], ◌∷◌, ◌++◌, length, get_or, take, drop, refl, sym, ◌∙◌, ap, arith, append_assoc, Bool, true, false, cond, Some, None, Option}
use Rattle.std.proofs.lemmas.Bool.{ne_eqb}
use Rattle.std.proofs.lemmas.Bool.Decides.{nat_tests}
use Rattle.std.specs.Char.{digit_value}
use Rattle.std.specs.Int.{is_in_range}
use Rattle.std.specs.Option.{option_map}
use Rattle.std.specs.Prelude.{◌&&◌}
use Rattle.std.specs.Str.Parse.{digits_value}
use Rattle.mount_table.specs.Escape.{is_octal_digit, octal_byte, before_rest, unescaped_past, unescaped}

-- fewer than three bytes
pub octal_byte-short : (text : List ℕ) → length text < 3 → octal_byte (take 3 text) ≡ None
unfolding octal_byte
octal_byte-short [] h = refl
octal_byte-short (a ∷ []) h = refl
octal_byte-short (a ∷ b ∷ []) h = refl
octal_byte-short (a ∷ b ∷ c ∷ text) h = absurd (omega arith)

-- the first three bytes
pub octal_byte-three : (text : List ℕ) → 3 ≤ length text → octal_byte (take 3 text) ≡ octal_byte (get_or text 0 0 ∷ get_or text 1 0 ∷ get_or text 2 0 ∷ [])
octal_byte-three [] h = absurd (omega arith)
octal_byte-three (a ∷ []) h = absurd (omega arith)
octal_byte-three (a ∷ b ∷ []) h = absurd (omega arith)
octal_byte-three (a ∷ b ∷ c ∷ text) h = refl

-- whether each of three bytes is a digit
abbrev pub three_digits : ℕ → ℕ → ℕ → Bool
three_digits a b c = is_octal_digit a && (is_octal_digit b && (is_octal_digit c && true))

-- one of three bytes is no digit
pub octal_byte-other : (a b c : ℕ) → three_digits a b c ≡ false → octal_byte (a ∷ b ∷ c ∷ []) ≡ None
unfolding octal_byte
octal_byte-other a b c e = rw e refl

-- the value of a digit
octal_is : (x : ℕ) → is_octal_digit x ≡ true → digit_value x ≡ x - 48
octal_is x e = grind (arith, nat_tests)

-- three digits
pub octal_byte-digits : (a b c value : ℕ) → is_octal_digit a ≡ true → is_octal_digit b ≡ true → is_octal_digit c ≡ true → value ≡ (a - 48) * 64 + (b - 48) * 8 + (c - 48) → octal_byte (a ∷ b ∷ c ∷ []) ≡ cond (is_in_range 1 255 value) (Some value) None
unfolding octal_byte
octal_byte-digits a b c value e f g is =
    let same : digits_value 8 (a ∷ b ∷ c ∷ []) ≡ value = omega (arith, octal_is a e, octal_is b f, octal_is c g) in
    rw (e, f, g) (ap (λ (n : ℕ). cond (is_in_range 1 255 n) (Some n) None) same)

-- a value that is no byte of an escape
pub none_outside : (value : ℕ) → (value ≡ 0) ⊎ ((value ≢ 0) × (255 < value)) → cond (is_in_range 1 255 value) (Some value) None ≡ None
none_outside value outside = grind (arith, nat_tests)

pub some_inside : (value : ℕ) → 0 < value → value ≤ 255 → cond (is_in_range 1 255 value) (Some value) None ≡ Some value
some_inside value above below = grind (arith, nat_tests)

-- what is skipped
unescaped_past-drop : (k : ℕ) (text : List ℕ) → unescaped_past k text ≡ unescaped_past 0 (drop k text)
unfolding unescaped_past
unescaped_past-drop zero text = refl
unescaped_past-drop (suc k) [] = refl
unescaped_past-drop (suc k) (x ∷ text) = unescaped_past-drop k text

pub unescaped-nil : unescaped [] ≡ Some []
unfolding unescaped_past
unescaped-nil = refl

-- any other byte stands for itself
pub unescaped-byte : (x : ℕ) (text : List ℕ) → x ≢ 92 → unescaped (x ∷ text) ≡ before_rest (Some x) (unescaped text)
unfolding unescaped_past
unescaped-byte x text other = rw (ne_eqb x 92 other) refl

-- an escape stands for its byte
pub unescaped-escape : (text : List ℕ) → unescaped (92 ∷ text) ≡ before_rest (octal_byte (take 3 text)) (unescaped (drop 3 text))
unfolding unescaped_past
unescaped-escape text = ap (before_rest (octal_byte (take 3 text))) (unescaped_past-drop 3 text)

-- bytes before the rest of a text
abbrev pub after_bytes : List ℕ → Option (List ℕ) → Option (List ℕ)
after_bytes bytes rest = option_map (λ more. bytes ++ more) rest

-- one more byte
pub after_bytes-push : (bytes : List ℕ) (byte : ℕ) (rest : Option (List ℕ)) → after_bytes bytes (before_rest (Some byte) rest) ≡ after_bytes (bytes ++ byte ∷ []) rest
after_bytes-push bytes byte None = refl
after_bytes-push bytes byte (Some rest) = ap Some (sym (append_assoc bytes (byte ∷ []) rest))

pub after_bytes-nil : (rest : Option (List ℕ)) → after_bytes [] rest ≡ rest
after_bytes-nil None = refl
after_bytes-nil (Some rest) = refl

-- the first byte of a text that begins with no escape
pub unescaped-first : (text : List ℕ) → 0 < length text → get_or text 0 0 ≢ 92 → unescaped text ≡ before_rest (Some (get_or text 0 0)) (unescaped (drop 1 text))
unescaped-first [] some other = absurd (omega arith)
unescaped-first (x ∷ text) some other = unescaped-byte x text other

-- the escape at the beginning of a text; `more` is what follows its backslash
pub unescaped-begins : (text more : List ℕ) (byte : Option ℕ) → 0 < length text → get_or text 0 0 ≡ 92 → more ≡ drop 1 text → byte ≡ octal_byte (take 3 more) → unescaped text ≡ before_rest byte (unescaped (drop 4 text))
unescaped-begins [] more byte some is rest value = absurd (omega arith)
unescaped-begins (x ∷ text) more byte some is rest value =
    ap (λ (y : ℕ). unescaped (y ∷ text)) is ∙ unescaped-escape text ∙ ap (λ (o : Option ℕ). before_rest o (unescaped (drop 3 text))) (sym (value ∙ ap (λ (l : List ℕ). octal_byte (take 3 l)) rest))
