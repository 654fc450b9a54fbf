-- What a search sees of the outside, and how that moves.
use Rattle.std.specs.Prelude.{◌≡◌, ℕ, ◌+◌, ◌^◌, ◌≤◌, ◌<◌, List, Option, Some, IfSome}
use Rattle.loc_outside.specs.Causes.{Rose}
use Rattle.loc_outside.specs.Files.{Files}
use Rattle.loc_outside.specs.Gates.{Tests}
use Rattle.locate_engine.specs.Searched.{Stand, stand}
use Rattle.locate_engine.specs.declared.outcome.Outcome.{Outcome}
use Rattle.locate_engine.specs.declared.outcome.Outcome.TheVariants as outcomes

-- Of a reader the files, how many bytes it has given and how often it has failed; of a gate its tests, how often it was
-- asked and has failed; of an output the bytes taken and how often it has failed; how many paths were found, and how many
-- steps were taken to tell which are wanted. What is optional is known only where the object tells it.
pub record Sight : Type 0 where
  pub files : Option Files
  pub given : ℕ
  pub reads_failed : ℕ
  pub tests : Option Tests
  pub asks : ℕ
  pub gate_failed : ℕ
  pub taken : Option (List ℕ)
  pub writes_failed : ℕ
  pub matched : ℕ
  pub steps : ℕ

-- what was printed, how many paths passed, and how often the gate was asked
abbrev pub stand_in : Sight → Stand
stand_in at = stand at.taken at.matched at.asks

-- nothing was read, printed, counted or asked
abbrev pub Idle : Sight → Sight → Type 0
Idle before after = (after.given ≡ before.given) × (stand_in after ≡ stand_in before)

-- no call of the reader, of the gate or of the output failed
abbrev pub NoneFailed : Sight → Sight → Type 0
NoneFailed before after =
    (Rose before.reads_failed after.reads_failed → ⊥) × (Rose before.gate_failed after.gate_failed → ⊥) × (Rose before.writes_failed after.writes_failed → ⊥)

-- A reader gave up to 2^40 bytes, and a read fault comes only where it failed.
pub record Reads (given given' failed failed' : ℕ) (outcome : Outcome) : Type 0 where
  pub gives : given ≤ given'
  pub within : given' ≤ given + 2 ^ 40
  pub later : failed ≤ failed'
  pub fault : outcome ≡ outcomes.ReadFault → Rose failed failed'

-- Files and tests stay, counts never fall, up to 2^40 paths are found, and an outcome that tells of a failed call comes
-- only where such a call failed.
pub record Moves (before : Sight) (outcome : Outcome) (after : Sight) : Type 0 where
  pub files : after.files ≡ before.files
  pub tests : after.tests ≡ before.tests
  pub reads : Reads before.given after.given before.reads_failed after.reads_failed outcome
  pub matched : before.matched ≤ after.matched
  pub matched_within : after.matched ≤ before.matched + 2 ^ 40
  pub steps : before.steps ≤ after.steps
  pub asks : before.asks ≤ after.asks
  pub gate : before.gate_failed ≤ after.gate_failed
  pub writes : before.writes_failed ≤ after.writes_failed
  pub gate_fault : outcome ≡ outcomes.GateFault → Rose before.gate_failed after.gate_failed
  pub write_fault : outcome ≡ outcomes.WriteFault → Rose before.writes_failed after.writes_failed

-- The count is at the limit where that ended the search, and below it otherwise.
pub record MeetsLimit (limit : Option ℕ) (outcome : Outcome) (matched : ℕ) : Type 0 where
  pub reached : outcome ≡ outcomes.LimitReached → limit ≡ Some matched
  pub under : (outcome ≡ outcomes.LimitReached → ⊥) → IfSome limit (λ most. matched < most)
