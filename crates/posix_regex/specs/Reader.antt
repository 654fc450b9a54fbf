-- What is kept of a pattern while it is read.
use Rattle.std.specs.Prelude.{◌≡◌, ◌⊎◌, List, [], ◌∷◌, Result, Err, IsOkAnd, MatchResult}
use Rattle.posix_regex.specs.declared.fault.RegexCause.{RegexCause}
use Rattle.posix_regex.specs.declared.fault.RegexCause.TheVariants.{OutOfMemory}
use Rattle.posix_regex.specs.declared.fault.RegexFault.{RegexFault}
use Rattle.posix_regex.specs.declared.reader.Frame.{Frame}
use Rattle.posix_regex.specs.declared.reader.Reader.{Reader}
use Rattle.posix_regex.specs.Fragment.{Stands, StandsIfSome}
use Rattle.posix_regex.specs.Pattern.{Group, Reading}

-- a frame stands for a group
pub record StandsFor (frame : Frame) (group : Group) : Type 0 where
  pub same_mark : frame.mark ≡ group.mark
  pub its_branches : StandsIfSome frame.branches group.branches
  pub its_branch : Stands frame.branch group.branch
  pub its_piece : StandsIfSome frame.piece group.piece

-- frames stand for groups, one for one
abbrev pub AllStand : List Frame → List Group → Type 0
AllStand [] [] = Unit {0}
AllStand (frame ∷ frames) (group ∷ groups) = StandsFor frame group × AllStand frames groups
AllStand [] (group ∷ groups) = ⊥
AllStand (frame ∷ frames) [] = ⊥

-- what is kept stands for what was read
pub record StandsForAll (reader : Reader) (reading : Reading) : Type 0 where
  pub its_inner : StandsFor reader.inner reading.inner
  pub its_outer : AllStand reader.outer reading.outer

-- memory ran out
abbrev pub no_memory : RegexFault
no_memory = record { place = 0; cause = OutOfMemory }

-- what is kept after a token stands for what was then read, or the token is refused, or memory ran out
abbrev pub Adds : Result Reader RegexCause → Result Reading RegexCause → Type 0
Adds result expected =
    MatchResult result (λ reader. IsOkAnd expected (λ read. StandsForAll reader read)) (λ cause. (cause ≡ OutOfMemory) ⊎ (expected ≡ Err cause))
