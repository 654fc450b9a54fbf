-- What the calls on the outside do to what is known of it.
use Rattle.std.specs.Prelude.{◌≡◌, ℕ, ◌≤◌, ◌<◌, List, [], length, take, ⊤, None, Some, Ok, Err, IsSome, Result, MatchResult}
use Rattle.std.specs.declared.option.Option.{Option}
use Rattle.std.specs.FinMap.{get}
use Rattle.std.specs.Io.KnownBytes.{IsAtEnd, Appends}
use Rattle.loc_outside.specs.Causes.{raised}
use Rattle.loc_outside.specs.Files.{Files}
use Rattle.loc_outside.specs.declared.traits.bytes.Failed.{Failed}
use Rattle.loc_outside.specs.declared.traits.bytes.Opened.{Opened}
use Rattle.loc_outside.specs.declared.traits.bytes.Opened.TheVariants.{Found, Missing}

-- the number of bytes given is raised by what a read answers
abbrev pub GivesCount : {E : Type 0} → ℕ → ℕ → Result ℕ E → Type 0
GivesCount before now r = MatchResult r (λ n. now ≡ raised before n) (λ _. now ≡ before)

-- a write takes a first part of the piece, not an empty one of a piece that isn't
abbrev pub TakesPart : {E : Type 0} → Result ℕ E → List ℕ → Type 0
TakesPart r piece = MatchResult r (λ n. (n ≤ length piece) × (0 < length piece → 0 < n)) (λ _. ⊤)

-- what is left after the opening of a name, among known files
abbrev pub OpensAs : Option Files → List ℕ → Result Opened Failed → Option (List ℕ) → Type 0
OpensAs None name (Ok Found) left = ⊤
OpensAs None name (Ok Missing) left = IsAtEnd left
OpensAs None name (Err e) left = IsAtEnd left
OpensAs (Some files) name (Ok Found) left = IsSome left × (left ≡ get files name)
OpensAs (Some files) name (Ok Missing) left = (get files name ≡ None) × (left ≡ Some [])
OpensAs (Some files) name (Err e) left = left ≡ Some []

-- a first part of the piece was taken
abbrev pub AppendsPart : Option (List ℕ) → Option (List ℕ) → List ℕ → Type 0
AppendsPart old new piece = (n : ℕ) × (n ≤ length piece) × Appends old new (take n piece)

-- a first part of the piece was taken, and not all of it
abbrev pub AppendsShort : Option (List ℕ) → Option (List ℕ) → List ℕ → Type 0
AppendsShort old new piece = (n : ℕ) × (n < length piece) × Appends old new (take n piece)
