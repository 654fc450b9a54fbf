-- One field at the front of some bytes: its value and the bytes after it, or why it is not whole there. A number is
-- judged when all its bytes are there, a text at the first byte that breaks its rule. `Cut` says that a byte past the
-- last one is asked for.
use Rattle.std.specs.Prelude.{◌≡◌, ℕ, ◌≤◌, ◌<◌, Bool, List, [], ◌∷◌, ◌++◌, length, take, drop, Result, Ok, Err, nat_lt, nat_eq, ◌==◌, if◌then◌else◌, All}
use Rattle.std.specs.List.{position_or_len, before_first, after_first, starts_with}
use Rattle.byteorder.specs.Endian.{big_number}
use Rattle.byte_feed.specs.declared.damage.DamageCause.{DamageCause}
use Rattle.byte_feed.specs.declared.damage.DamageCause.TheVariants.{Cut, LongPath}
use Rattle.byte_feed.specs.declared.damage.Stop.{Stop}
use Rattle.byte_feed.specs.declared.damage.Stop.TheVariants.{NotADatabase, Broken}

-- a reader of values of a type
abbrev pub Reads : Type 0 → Type 0
Reads A = List ℕ → Result (A × List ℕ) Stop

infixl 10 ◌>>=◌
abbrev pub ◌>>=◌ : {A B : Type 0} → Result A Stop → (A → Result B Stop) → Result B Stop
(Ok x) >>= f = f x
(Err s) >>= f = Err s

-- the bytes that a format begins with
abbrev pub magic_at : List ℕ → Reads (Unit {0})
magic_at magic bytes = if starts_with nat_eq bytes magic then Ok (tt, drop (length magic) bytes) else Err NotADatabase

abbrev pub byte_at : Reads ℕ
byte_at [] = Err (Broken Cut)
byte_at (b ∷ bytes) = Ok (b, bytes)

-- so many bytes
abbrev pub bytes_at : ℕ → Reads (List ℕ)
bytes_at count bytes = if nat_lt (length bytes) count then Err (Broken Cut) else Ok (take count bytes, drop count bytes)

-- a number of so many bytes, big endian
abbrev pub number_at : ℕ → Reads ℕ
number_at width bytes = if nat_lt (length bytes) width then Err (Broken Cut) else Ok (big_number width bytes, drop width bytes)

-- a test on what was read
abbrev pub demand : Bool → DamageCause → Result (Unit {0}) Stop
demand holds cause = if holds then Ok tt else Err (Broken cause)

abbrev pub is_zero : ℕ → Bool
is_zero b = b == 0

-- The bytes before the first zero byte, which is skipped. There may be `room` of them at most.
unfoldable pub ended_at : ℕ → Reads (List ℕ)
ended_at room bytes =
    let len = position_or_len is_zero bytes in
    if nat_lt room len then Err (Broken LongPath) else
    if len == length bytes then Err (Broken Cut) else
    Ok (before_first is_zero bytes, after_first is_zero bytes)

-- the same, of which there is one at least
abbrev pub text_at : DamageCause → ℕ → Reads (List ℕ)
text_at empty room bytes = do
  text ← ended_at room bytes
  some ← demand (nat_lt 0 (length text.0)) empty
  Ok text

-- What a function returned, seen by view, is what reading gives.
abbrev pub FieldGives : {X Y : Type 0} → (X → Y) → Result X Stop → Result Y Stop → Type 0
FieldGives view (Ok x) read = read ≡ Ok (view x)
FieldGives view (Err s) read = read ≡ Err s

-- ---- what is spelled

-- at most room bytes, none of them zero
pub record IsPlain (room : ℕ) (text : List ℕ) : Type 0 where
  pub fits : length text ≤ room
  pub plain : All (λ b. 0 < b) text

-- a path has at most so many bytes
abbrev pub max_path : ℕ
max_path = 4096

-- from 1 to room bytes, none of them zero
pub record IsText (room : ℕ) (text : List ℕ) : Type 0 where
  pub some : 0 < length text
  pub fits : length text ≤ room
  pub plain : All (λ b. 0 < b) text

-- a text and its zero byte
abbrev pub ended : List ℕ → List ℕ
ended text = text ++ 0 ∷ []
