-- A search in which no call failed.
use Rattle.std.proofs.Common.{◌≡◌, ℕ, ◌+◌, ◌-◌, ◌<◌, Bool, true, false, cond, List, [], ◌∷◌, ◌++◌, length, take, Option, Some, None, IfSome, refl, sym, ap, subst, ◌∙◌, append-nil, arith}
use Rattle.std.specs.Prelude.{nat_eq}
use Rattle.std.proofs.lemmas.Bool.{eqb-true, eq-eqb}
use Rattle.std.proofs.lemmas.List.{take_all, take_at}
use Rattle.std.proofs.lemmas.List.Elements.{filter-append}
use Rattle.std.specs.Io.KnownBytes.{Appends}
use Rattle.byte_feed.specs.Paths.{PathAt, ToCome}
use Rattle.locate_engine.specs.Passing.{Rule, passes, passing, lines, up_to}
use Rattle.locate_engine.specs.Searched.{Stand, Progress, gone_through, outcome_of, at_limit, is_read_fault, ComesToEnd, ReachesLimit, Searches, SearchesWhole}
use Rattle.locate_engine.specs.declared.outcome.Outcome.{Outcome}
use Rattle.locate_engine.specs.declared.outcome.Outcome.TheVariants as outcomes

all_within : (limit : Option ℕ) (m m' : ℕ) (ps : List PathAt) → IfSome limit (λ n. m' < n) → m' ≡ m + length ps → up_to limit m ps ≡ ps
all_within None m m' ps below count = refl
all_within (Some n) m m' ps below count = take_all (n - m) ps (omega (arith, below, count))

differs : (b : Bool) (m n : ℕ) → nat_eq m n ≡ b → m < n → b ≡ false
differs true m n e lt = absurd (omega (arith, eqb-true m n e, lt))
differs false m n e lt = refl

under_limit : (limit : Option ℕ) (m : ℕ) → IfSome limit (λ n. m < n) → at_limit limit m ≡ false
under_limit None m below = refl
under_limit (Some n) m below = differs (nat_eq m n) m n refl below

-- what was done is told by the paths that were gone through
by_gone : (rule : Rule) (bound : List ℕ → ℕ) (seen : ToCome) (old new : Stand) (s s' : ℕ) (result : Outcome) (done : Searches rule bound seen old new s s' result) (paths : List PathAt)
    → done.at ≡ gone_through paths → up_to rule.limit old.matched (passing rule seen.paths) ≡ passing rule paths → result ≡ cond (at_limit rule.limit new.matched) outcomes.LimitReached (outcome_of seen.ending)
    → SearchesWhole rule seen old new result
by_gone rule bound seen old new s s' result done paths gone first ends =
    let put : Appends old.taken new.taken (lines rule (passing rule paths) ++ []) = subst (λ (at : Progress). Appends old.taken new.taken (lines rule (passing rule at.gone) ++ at.part)) gone done.prints in
    let put' : Appends old.taken new.taken (lines rule (passing rule paths)) = subst (Appends old.taken new.taken) (append-nil (lines rule (passing rule paths))) put in
    record {
      prints = subst (λ (ps : List PathAt). Appends old.taken new.taken (lines rule ps)) (sym first) put';
      counts = done.counts ∙ ap (λ (at : Progress). old.matched + length (passing rule at.gone)) gone ∙ ap (λ (ps : List PathAt). old.matched + length ps) (sym first);
      ends = ends;
    }

whole_end : (rule : Rule) (bound : List ℕ → ℕ) (seen : ToCome) (old new : Stand) (s s' : ℕ) (result : Outcome) (done : Searches rule bound seen old new s s' result) → ComesToEnd rule seen new.matched done.at result → is_read_fault result ≡ false
    → SearchesWhole rule seen old new result
whole_end rule bound seen old new s s' result done stop read =
    let count : new.matched ≡ old.matched + length (passing rule seen.paths) = done.counts ∙ ap (λ (at : Progress). old.matched + length (passing rule at.gone)) stop.all in
    by_gone rule bound seen old new s s' result done seen.paths stop.all (all_within rule.limit old.matched new.matched (passing rule seen.paths) stop.below count)
    (stop.ends read ∙ ap (λ (b : Bool). cond b outcomes.LimitReached (outcome_of seen.ending)) (sym (under_limit rule.limit new.matched stop.below)))

whole_limit : (rule : Rule) (bound : List ℕ → ℕ) (seen : ToCome) (old new : Stand) (s s' : ℕ) (done : Searches rule bound seen old new s s' outcomes.LimitReached) → ReachesLimit rule new.matched done.at → SearchesWhole rule seen old new outcomes.LimitReached
whole_limit rule bound seen old new s s' done stop =
    let paths : List PathAt = stop.before ++ stop.last ∷ [] in
    let all : seen.paths ≡ paths ++ done.behind = done.paths ∙ ap (λ (at : Progress). (at.gone ++ at.hand) ++ done.behind) stop.gone ∙ ap (λ (ps : List PathAt). ps ++ done.behind) (append-nil paths) in
    let count : new.matched ≡ old.matched + length (passing rule paths) = done.counts ∙ ap (λ (at : Progress). old.matched + length (passing rule at.gone)) stop.gone in
    let parts : passing rule seen.paths ≡ passing rule paths ++ passing rule done.behind = ap (passing rule) all ∙ filter-append (passes rule) paths done.behind in
    by_gone rule bound seen old new s s' outcomes.LimitReached done paths stop.gone
    (ap (λ (o : Option ℕ). up_to o old.matched (passing rule seen.paths)) stop.limit ∙ ap (take (new.matched - old.matched)) parts ∙ take_at (passing rule paths) (passing rule done.behind) (new.matched - old.matched) (omega (arith, count)))
    (sym (ap (λ (o : Option ℕ). cond (at_limit o new.matched) outcomes.LimitReached (outcome_of seen.ending)) stop.limit ∙ ap (λ (b : Bool). cond b outcomes.LimitReached (outcome_of seen.ending)) (eq-eqb new.matched new.matched refl)))

-- where neither reading, asking nor writing failed
pub searches_whole : (rule : Rule) (bound : List ℕ → ℕ) (seen : ToCome) (old new : Stand) (s s' : ℕ) (result : Outcome) → Searches rule bound seen old new s s' result
    → (result ≡ outcomes.ReadFault → ⊥) → (result ≡ outcomes.GateFault → ⊥) → (result ≡ outcomes.WriteFault → ⊥) → SearchesWhole rule seen old new result
searches_whole rule bound seen old new s s' outcomes.Whole done read gate write = whole_end rule bound seen old new s s' outcomes.Whole done done.stops refl
searches_whole rule bound seen old new s s' outcomes.Missing done read gate write = absurd done.stops
searches_whole rule bound seen old new s s' outcomes.NotADatabase done read gate write = whole_end rule bound seen old new s s' outcomes.NotADatabase done done.stops refl
searches_whole rule bound seen old new s s' (outcomes.Damage d) done read gate write = whole_end rule bound seen old new s s' (outcomes.Damage d) done done.stops refl
searches_whole rule bound seen old new s s' outcomes.ReadFault done read gate write = absurd (read refl)
searches_whole rule bound seen old new s s' outcomes.GateFault done read gate write = absurd (gate refl)
searches_whole rule bound seen old new s s' outcomes.TooLarge done read gate write = whole_end rule bound seen old new s s' outcomes.TooLarge done done.stops refl
searches_whole rule bound seen old new s s' outcomes.LimitReached done read gate write = whole_limit rule bound seen old new s s' done done.stops
searches_whole rule bound seen old new s s' outcomes.WriteFault done read gate write = absurd (write refl)
