-- Databases that are tried one after another.
use Rattle.std.specs.Prelude.{◌≡◌, ℕ, Bool, true, false, List, [], ◌∷◌, Option, MatchBool, ⊤}
use Rattle.loc_outside.specs.Files.{Files}
use Rattle.loc_outside.specs.Gates.{Tests}
use Rattle.locate_engine.specs.Sight.{Sight}
use Rattle.locate_engine.specs.declared.outcome.Outcome.{Outcome}
use Rattle.locate_engine.specs.declared.outcome.Outcome.TheVariants as outcomes

-- Where a run of `locate` stands: of its reader the files, how many bytes it has given and how often it has failed; of its
-- gate its tests, how often it was asked and has failed; of standard output the bytes taken, how many of them it holds back
-- and how often it has failed; and how many paths were found. An optional field is `None`
-- where the object does not tell it.
pub record Standing : Type 0 where
  pub files : Option Files
  pub given : ℕ
  pub reads_failed : ℕ
  pub tests : Option Tests
  pub asks : ℕ
  pub gate_failed : ℕ
  pub taken : Option (List ℕ)
  pub held_back : ℕ
  pub writes_failed : ℕ
  pub matched : ℕ

-- what a search sees of that, which counts no steps
abbrev pub sight_in : Standing → Sight
sight_in s = record {
  files = s.files;
  given = s.given;
  reads_failed = s.reads_failed;
  tests = s.tests;
  asks = s.asks;
  gate_failed = s.gate_failed;
  taken = s.taken;
  writes_failed = s.writes_failed;
  matched = s.matched;
  steps = 0;
}

-- after an outcome like this no further database is tried
abbrev pub ends_run : Outcome → Bool
ends_run outcomes.LimitReached = true
ends_run outcomes.WriteFault = true
ends_run outcome = false

-- The first databases were tried in their order, each with its outcome and from where the one before left the run.
abbrev pub Goes : (List ℕ → Standing → Outcome → Standing → Type 0) → List (List ℕ) → List Outcome → Standing → Standing → Type 0
Goes one names [] s s' = s ≡ s'
Goes one [] (outcome ∷ outcomes) s s' = ⊥
Goes one (name ∷ names) (outcome ∷ outcomes) s s' = (t : Standing) × one name s outcome t × Goes one names outcomes t s'

-- Each database has an outcome, up to the first that ends the run.
abbrev pub IsComplete : List (List ℕ) → List Outcome → Type 0
IsComplete [] [] = ⊤
IsComplete [] (outcome ∷ outcomes) = ⊥
IsComplete (name ∷ names) [] = ⊥
IsComplete (name ∷ names) (outcome ∷ outcomes) = MatchBool (ends_run outcome) (outcomes ≡ []) (IsComplete names outcomes)
