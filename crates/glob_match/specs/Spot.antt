-- What is known of a text on which a pattern was tried.
use Rattle.std.specs.Prelude.{◌≡◌, ℕ, ◌<◌, ◌≤◌, Bool, true, false, List, length, take}
use Rattle.glob_match.specs.declared.spot.Spot.{Spot}
use Rattle.glob_match.specs.declared.spot.Spot.TheVariants.{Unjudged, Nowhere, Ends}
use Rattle.glob_match.specs.Pattern.{Wanted, InGlob}

-- each text that begins with the first bytes of this one, up to the end, matches, and no shorter first part does
pub record FirstEnds (glob : Wanted) (text : List ℕ) (end : ℕ) : Type 0 where
  pub within : end ≤ length text
  pub enough : (other : List ℕ) → take end other ≡ take end text → InGlob glob other
  pub first : (n : ℕ) → n < end → InGlob glob (take n text) → ⊥

-- what a spot tells of a text: nothing; that no first part of it matches; or where the first one that does ends
abbrev pub Known : Spot → Wanted → List ℕ → Type 0
Known Unjudged glob text = Unit {0}
Known Nowhere glob text = (n : ℕ) → InGlob glob (take n text) → ⊥
Known (Ends end) glob text = FirstEnds glob text end

-- whether a text matches of which this is known
abbrev pub Tells : Spot → Bool → Type 0
Tells Unjudged matches = ⊥
Tells Nowhere matches = matches ≡ false
Tells (Ends end) matches = matches ≡ true
