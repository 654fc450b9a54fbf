-- What is told on the error stream.
use Rattle.std.specs.Prelude.{ℕ, Bool, List, [], ◌∷◌, ◌++◌, Option, Some, None, MatchBool, codes, if◌then◌else◌}
use Rattle.std.specs.Io.KnownBytes.{Appends}
use Rattle.loc_outside.specs.Causes.{Rose}
use Rattle.loc_outside.specs.Outside.{AppendsPart}
use Rattle.locate_engine.specs.declared.outcome.Outcome.{Outcome}
use Rattle.tool_words.specs.Asked.{Asked, Updatedb, Locate, Convert, Exercise}
use Rattle.locate_tools.specs.Calls.{CallMade, request_of, speaker_of, subject_of}
use Rattle.locate_tools.specs.LocateExact.{databases_of}
use Rattle.locate_tools.specs.Messages.{outcome_message, cause_message}
use Rattle.locate_tools.specs.declared.answer.Cause.{Cause}

-- the messages of databases in their order, each by how it ended
abbrev pub outcome_messages : List (List ℕ) → List Outcome → List ℕ
outcome_messages names [] = []
outcome_messages [] (outcome ∷ outcomes) = []
outcome_messages (name ∷ names) (outcome ∷ outcomes) = outcome_message (codes "locate") name outcome ++ outcome_messages names outcomes

-- the same, unless they are not asked for
abbrev pub messages : Bool → List (List ℕ) → List Outcome → List ℕ
messages quiet names outcomes = if quiet then [] else outcome_messages names outcomes

-- the messages of the databases that words ask for
abbrev pub messages_of : Option Asked → List Outcome → List ℕ
messages_of None outcomes = []
messages_of (Some (Updatedb settings)) outcomes = []
messages_of (Some (Locate settings)) outcomes = messages settings.quiet (databases_of settings) outcomes
messages_of (Some (Convert settings)) outcomes = []
messages_of (Some (Exercise settings)) outcomes = []

-- what is told of a run: how each database ended, and then the cause
abbrev pub told : CallMade → List Outcome → Cause → List ℕ
told call outcomes cause = messages_of (request_of call) outcomes ++ cause_message (speaker_of call) (subject_of (request_of call) cause) cause

-- A text was told, or, where a write failed, a first part of it.
abbrev pub TellsAs : Bool → ℕ → ℕ → Option (List ℕ) → Option (List ℕ) → List ℕ → Type 0
TellsAs failed before now taken taken' text =
    MatchBool failed (Rose before now × AppendsPart taken taken' text) (Appends taken taken' text)
