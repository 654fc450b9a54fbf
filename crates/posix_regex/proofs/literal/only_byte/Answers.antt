use Rattle.std.proofs.Common.{ℕ, Bool, Some, None, Option, MatchOption}
use Rattle.byte_class.specs.ByteSet.{has, members, IsAlone}
use Rattle.posix_regex.specs.Program.{Takes}
use Rattle.posix_regex.specs.Literal.{TakesOnly}
use Rattle.posix_regex.proofs.Singles.{only_from_alone, alone_from_only}
use Rattle.posix_regex.proofs.literal.only_byte.Goals as goal

told : (test : ℕ → Bool) (r : Option ℕ) → MatchOption r ((byte : ℕ) → IsAlone test byte → ⊥) (λ byte. IsAlone test byte)
    → MatchOption r ((byte : ℕ) → TakesOnly (Some (Takes (members test))) byte → ⊥) (λ byte. TakesOnly (Some (Takes (members test))) byte)
told test None h = λ byte only. h byte (alone_from_only test byte only)
told test (Some byte) h = only_from_alone test byte h

pub returns-in-Set : goal.returns-in-Set
returns-in-Set c = rw c.in-Set.is (told (has c.in-Set.set) c.single.result c.single.ensures)
