-- What an ending says of how a search ends.
use Rattle.std.proofs.Common.{◌≡◌, ℕ, ◌^◌, Bool, true, false, Ok, Err, IsTrue, refl, subst}
use Rattle.byte_feed.specs.declared.damage.DbFault.{DbFault}
use Rattle.byte_feed.specs.declared.damage.DbFault.TheVariants as faults
use Rattle.byte_feed.specs.Feed.{FeedState, reach}
use Rattle.byte_feed.specs.Endings.{Ending, StopsAt}
use Rattle.locate_engine.specs.Searched.{outcome_of, is_read_fault}
use Rattle.locate_engine.specs.Statistics.{ends_reading}
use Rattle.locate_engine.specs.declared.outcome.Outcome.{Outcome}
use Rattle.locate_engine.specs.declared.outcome.Outcome.TheVariants as outcomes

pub off_on : false ≡ true → ⊥
off_on e = absurd cc

pub on_off : true ≡ false → ⊥
on_off e = absurd cc

-- ---- a failed read

pub is_the_read_fault : (result : Outcome) → is_read_fault result ≡ true → result ≡ outcomes.ReadFault
is_the_read_fault outcomes.Whole e = absurd cc
is_the_read_fault outcomes.Missing e = absurd cc
is_the_read_fault outcomes.NotADatabase e = absurd cc
is_the_read_fault (outcomes.Damage d) e = absurd cc
is_the_read_fault outcomes.ReadFault e = refl
is_the_read_fault outcomes.GateFault e = absurd cc
is_the_read_fault outcomes.TooLarge e = absurd cc
is_the_read_fault outcomes.LimitReached e = absurd cc
is_the_read_fault outcomes.WriteFault e = absurd cc

pub no_read_fault : (result : Outcome) → (result ≡ outcomes.ReadFault → ⊥) → is_read_fault result ≡ false
no_read_fault outcomes.Whole read = refl
no_read_fault outcomes.Missing read = refl
no_read_fault outcomes.NotADatabase read = refl
no_read_fault (outcomes.Damage d) read = refl
no_read_fault outcomes.ReadFault read = absurd (read refl)
no_read_fault outcomes.GateFault read = refl
no_read_fault outcomes.TooLarge read = refl
no_read_fault outcomes.LimitReached read = refl
no_read_fault outcomes.WriteFault read = refl

pub failed_there : (e : DbFault) → outcome_of (Err e) ≡ outcomes.ReadFault → e ≡ faults.ReadFault
failed_there faults.NotADatabase is = absurd cc
failed_there (faults.Damage d) is = absurd cc
failed_there faults.ReadFault is = refl
failed_there faults.TooLarge is = absurd cc

-- ---- what no ending is

pub by_reading : (e : Ending) → IsTrue (ends_reading (outcome_of e))
by_reading (Ok x) = refl
by_reading (Err faults.NotADatabase) = refl
by_reading (Err (faults.Damage d)) = refl
by_reading (Err faults.ReadFault) = refl
by_reading (Err faults.TooLarge) = refl

by_calls : (e : Ending) (o : Outcome) → ends_reading o ≡ false → outcome_of e ≡ o → ⊥
by_calls e o other is = off_on (subst (λ (b : Bool). b ≡ true) other (subst (λ (p : Outcome). IsTrue (ends_reading p)) is (by_reading e)))

pub no_limit : (e : Ending) → outcome_of e ≡ outcomes.LimitReached → ⊥
no_limit e is = by_calls e outcomes.LimitReached refl is

pub not_gate : (e : Ending) → outcome_of e ≡ outcomes.GateFault → ⊥
not_gate e is = by_calls e outcomes.GateFault refl is

pub not_write : (e : Ending) → outcome_of e ≡ outcomes.WriteFault → ⊥
not_write e is = by_calls e outcomes.WriteFault refl is

pub not_missing : (e : Ending) → outcome_of e ≡ outcomes.Missing → ⊥
not_missing (Ok x) is = absurd cc
not_missing (Err faults.NotADatabase) is = absurd cc
not_missing (Err (faults.Damage d)) is = absurd cc
not_missing (Err faults.ReadFault) is = absurd cc
not_missing (Err faults.TooLarge) is = absurd cc

-- ---- what a stop says of the bytes read

pub all_read : (e : Ending) (f : FeedState) (place : ℕ) → StopsAt f place e → outcome_of e ≡ outcomes.Whole → f.ended ≡ true
all_read (Ok x) f place stops is = stops.1
all_read (Err faults.NotADatabase) f place stops is = absurd cc
all_read (Err (faults.Damage d)) f place stops is = absurd cc
all_read (Err faults.ReadFault) f place stops is = absurd cc
all_read (Err faults.TooLarge) f place stops is = absurd cc

pub limit_read : (e : Ending) (f : FeedState) (place : ℕ) → StopsAt f place e → outcome_of e ≡ outcomes.TooLarge → reach f ≡ 2 ^ 40
limit_read (Ok x) f place stops is = absurd cc
limit_read (Err faults.NotADatabase) f place stops is = absurd cc
limit_read (Err (faults.Damage d)) f place stops is = absurd cc
limit_read (Err faults.ReadFault) f place stops is = absurd cc
limit_read (Err faults.TooLarge) f place stops is = stops
