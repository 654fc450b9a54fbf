-- What clap's contract says, in the words of this crate.
use Rattle.std.proofs.Common.{◌≡◌, Bool, true, false, [], ◌∷◌, refl}
use Rattle.std.specs.Prelude.{◌&&◌}
use Rattle.clap.specs.Words.{IsAmong, Kinds}
use Rattle.clap.specs.declared.error.kind.ErrorKind.{ErrorKind}
use Rattle.tool_words.specs.Matches.{has_fault}

-- a fault that is among some
pub has_fault-among : (kind : ErrorKind) (kinds : Kinds) → IsAmong kind kinds → has_fault kinds ≡ true
has_fault-among kind [] among = absurd among
has_fault-among kind (k ∷ ks) among = refl

pub first_of_both : (a b : Bool) → a && b ≡ true → a ≡ true
first_of_both true b both = refl
first_of_both false b both = both
