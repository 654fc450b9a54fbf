-- The bytes by which a search leaves a set of states, where they are few.
use Rattle.std.specs.Prelude.{◌≡◌, ℕ, ◌==◌, Bool, true, false, not, List, [], ◌∷◌, slice_index}
use Rattle.byte_class.specs.ByteSet.{members}
use Rattle.memchr.specs.Find.{is_byte, is_byte2, is_byte3}
use Rattle.posix_regex.specs.declared.leaving.Leaving.{Leaving}
use Rattle.posix_regex.specs.declared.leaving.Leaving.TheVariants.{Nothing, One, Two, Three, Many}

-- these bytes, where they are at most three
abbrev pub few : List ℕ → Leaving
few [] = Nothing
few (a ∷ []) = One a
few (a ∷ b ∷ []) = Two a b
few (a ∷ b ∷ c ∷ []) = Three a b c
few (a ∷ b ∷ c ∷ d ∷ more) = Many

-- whether a byte may be one of them
abbrev pub leaves : Leaving → ℕ → Bool
leaves Nothing = λ byte. false
leaves (One a) = is_byte a
leaves (Two a b) = is_byte2 a b
leaves (Three a b c) = is_byte3 a b c
leaves Many = λ byte. true

-- the bytes that have another entry than this number
abbrev pub elsewhere : List ℕ → ℕ → List ℕ
elsewhere next number = members (λ byte. not (slice_index next byte == number))
