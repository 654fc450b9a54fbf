-- What a search prints, counts and asks over the paths of a database.
use Rattle.std.specs.Prelude.{◌≡◌, ℕ, ◌+◌, ◌≤◌, ◌<◌, Bool, List, [], ◌∷◌, ◌++◌, length, take, Option, Some, None, Ok, Err, true, false, nat_eq, if◌then◌else◌, IfSome, IsTrue}
use Rattle.std.specs.List.{sum_by}
use Rattle.std.specs.Io.KnownBytes.{Appends}
use Rattle.loc_outside.specs.Causes.{raised}
use Rattle.byte_feed.specs.declared.damage.DbFault.TheVariants as faults
use Rattle.byte_feed.specs.Endings.{Ending}
use Rattle.byte_feed.specs.Paths.{PathAt, ToCome}
use Rattle.any_db.specs.Formats.{contents, contents_of_part}
use Rattle.locate_engine.specs.Passing.{Rule, passes, line_of, passing, lines, up_to, due}
use Rattle.locate_engine.specs.declared.outcome.Outcome.{Outcome}
use Rattle.locate_engine.specs.declared.outcome.Outcome.TheVariants as outcomes

-- ---- how a search ends

-- how a search ends that comes to the end of the paths
abbrev pub outcome_of : Ending → Outcome
outcome_of (Ok x) = outcomes.Whole
outcome_of (Err faults.NotADatabase) = outcomes.NotADatabase
outcome_of (Err (faults.Damage damage)) = outcomes.Damage damage
outcome_of (Err faults.ReadFault) = outcomes.ReadFault
outcome_of (Err faults.TooLarge) = outcomes.TooLarge

-- the search was ended by a failed read
abbrev pub is_read_fault : Outcome → Bool
is_read_fault outcomes.ReadFault = true
is_read_fault outcome = false

-- the search was ended by what stands in the file
abbrev pub is_by_end : Outcome → Bool
is_by_end outcomes.Whole = true
is_by_end outcomes.NotADatabase = true
is_by_end (outcomes.Damage damage) = true
is_by_end outcomes.TooLarge = true
is_by_end outcome = false

-- no file was found, or a call of the reader failed
abbrev pub is_missing_or_read_fault : Outcome → Bool
is_missing_or_read_fault outcomes.Missing = true
is_missing_or_read_fault outcomes.ReadFault = true
is_missing_or_read_fault outcome = false

-- the count is at the limit
abbrev pub at_limit : Option ℕ → ℕ → Bool
at_limit None matched = false
at_limit (Some limit) matched = nat_eq matched limit

-- the most steps that it takes to tell of each path whether it is wanted
abbrev pub steps_over : (List ℕ → ℕ) → List PathAt → ℕ
steps_over bound paths = sum_by (λ (p : PathAt). bound p.text) paths

-- ---- what is seen of a file

-- the paths of the file, or, where the reader failed, those that are whole in the bytes given
abbrev pub seen_in : List ℕ → ℕ → Outcome → ToCome
seen_in file given result = if is_read_fault result then contents_of_part given file else contents file

-- ---- what a search did

-- what was printed, how many paths passed, and how often the gate was asked
pub record Stand : Type 0 where
  pub taken : Option (List ℕ)
  pub matched : ℕ
  pub asks : ℕ

abbrev pub stand : Option (List ℕ) → ℕ → ℕ → Stand
stand taken matched asks = record { taken = taken; matched = matched; asks = asks }

-- A search goes through the first paths of a list whole. Of the next one, in whose midst a call failed, it has printed a
-- part of the line and asked the gate so often.
pub record Progress : Type 0 where
  pub gone : List PathAt
  pub hand : List PathAt
  pub part : List ℕ
  pub calls : ℕ

-- no path is in hand
abbrev pub gone_through : List PathAt → Progress
gone_through paths = record { gone = paths; hand = []; part = []; calls = 0 }

-- All paths were gone through and the limit was not reached. The search ends as they do, unless a read failed.
pub record ComesToEnd (rule : Rule) (seen : ToCome) (matched : ℕ) (at : Progress) (result : Outcome) : Type 0 where
  pub all : at ≡ gone_through seen.paths
  pub below : IfSome rule.limit (λ limit. matched < limit)
  pub ends : is_read_fault result ≡ false → result ≡ outcome_of seen.ending

-- The last path that was gone through passes, and is counted as the last one within the limit.
pub record ReachesLimit (rule : Rule) (matched : ℕ) (at : Progress) : Type 0 where
  pub before : List PathAt
  pub last : PathAt
  pub gone : at ≡ gone_through (before ++ last ∷ [])
  pub passed : passes rule last ≡ true
  pub limit : rule.limit ≡ Some matched

-- A wanted path is in hand: a call of the gate that was due for it was the last one made, and failed.
pub record FailsAtGate (rule : Rule) (at : Progress) : Type 0 where
  pub here : PathAt
  pub in_hand : at.hand ≡ here ∷ []
  pub wanted : rule.wanted here.text ≡ true
  pub unprinted : at.part ≡ []
  pub called : 0 < at.calls
  pub was_due : due rule at.gone + at.calls ≤ due rule (at.gone ++ here ∷ [])

-- A path that passes is in hand: a first part of its line was printed, and not all.
pub record FailsToWrite (rule : Rule) (at : Progress) : Type 0 where
  pub here : PathAt
  pub in_hand : at.hand ≡ here ∷ []
  pub passed : passes rule here ≡ true
  pub called : due rule at.gone + at.calls ≡ due rule (at.gone ++ here ∷ [])
  pub printed : ℕ
  pub short : printed < length (line_of rule here)
  pub first : at.part ≡ take printed (line_of rule here)

abbrev pub StopsAs : Rule → ToCome → ℕ → Progress → Outcome → Type 0
StopsAs rule seen matched at outcomes.Missing = ⊥
StopsAs rule seen matched at outcomes.LimitReached = ReachesLimit rule matched at
StopsAs rule seen matched at outcomes.GateFault = FailsAtGate rule at
StopsAs rule seen matched at outcomes.WriteFault = FailsToWrite rule at
StopsAs rule seen matched at result = ComesToEnd rule seen matched at result

-- What a search did over these paths. The line of each path that it went through and that passes was printed, and the
-- path counted; the gate was asked as often as was due.
pub record Searches (rule : Rule) (bound : List ℕ → ℕ) (seen : ToCome) (old new : Stand) (steps steps' : ℕ) (result : Outcome) : Type 0 where
  pub at : Progress
  pub behind : List PathAt
  pub paths : seen.paths ≡ at.gone ++ at.hand ++ behind
  pub prints : Appends old.taken new.taken (lines rule (passing rule at.gone) ++ at.part)
  pub counts : new.matched ≡ old.matched + length (passing rule at.gone)
  pub asks : new.asks ≡ raised old.asks (due rule at.gone + at.calls)
  pub within : steps' ≤ steps + steps_over bound (at.gone ++ at.hand)
  pub stops : StopsAs rule seen new.matched at result

-- where the item of the last of these paths ends
abbrev pub end_after : ℕ → List PathAt → ℕ
end_after place [] = place
end_after place (p ∷ paths) = end_after p.place paths

-- What a search did, and how far the file was read: where the limit was reached, no more than 20,480 bytes past the last
-- path that was gone through.
pub record SearchesTo (rule : Rule) (bound : List ℕ → ℕ) (seen : ToCome) (old new : Stand) (steps steps' : ℕ) (result : Outcome) (far : ℕ) : Type 0 where
  pub did : Searches rule bound seen old new steps steps' result
  pub near : result ≡ outcomes.LimitReached → far ≤ end_after 0 did.at.gone + 20480

-- Where no call failed: the lines of the first paths that pass were printed, up to the limit, and each counted.
pub record SearchesWhole (rule : Rule) (seen : ToCome) (old new : Stand) (result : Outcome) : Type 0 where
  pub prints : Appends old.taken new.taken (lines rule (up_to rule.limit old.matched (passing rule seen.paths)))
  pub counts : new.matched ≡ old.matched + length (up_to rule.limit old.matched (passing rule seen.paths))
  pub ends : result ≡ (if at_limit rule.limit new.matched then outcomes.LimitReached else outcome_of seen.ending)

-- Whatever the gate answers: a search that goes through all paths ends as they do, and none takes more steps than it takes
-- to tell of all of them whether they are wanted.
pub record EndsWithin (bound : List ℕ → ℕ) (seen : ToCome) (steps steps' : ℕ) (result : Outcome) : Type 0 where
  pub ends : IsTrue (is_by_end result) → result ≡ outcome_of seen.ending
  pub within : steps' ≤ steps + steps_over bound seen.paths
