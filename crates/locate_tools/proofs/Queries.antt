-- The query of the words.
use Rattle.std.proofs.Common.{◌≡◌, ℕ, ◌<◌, Bool, false, List, [], ◌∷◌, map, if◌then◌else◌, refl, sym, ap, subst, ◌∙◌}
use Rattle.std.specs.Prelude.{IfOk, IfSome, Result, Ok, Err}
use Rattle.glob_match.specs.Pattern.{Wanted, wanted}
use Rattle.locate_engine.specs.Sought.{Sought}
use Rattle.locate_engine.specs.declared.query.Query.{Query}
use Rattle.locate_engine.specs.declared.outcome.Outcome.{Outcome}
use Rattle.tool_words.specs.Locate.{LocateAsked, seeks_expressions}
use Rattle.locate_tools.specs.LocateExact.{databases_of, globs_of, query_of, sought_by, work_by}
use Rattle.locate_tools.specs.Standing.{Standing, Goes, IsComplete}
use Rattle.locate_tools.specs.Tried.{Tried}
use Rattle.locate_tools.specs.LocateRun.{Concludes, LocateRan}
use Rattle.locate_tools.specs.declared.answer.Cause.{Cause}

-- the patterns of texts, and of their bytes
patterns_of : {X : Type 0} (now : X → List ℕ) (fold : Bool) (xs : List X) → map (λ (x : X). wanted (now x) fold) xs ≡ map (λ pattern. wanted pattern fold) (map now xs)
patterns_of now fold [] = refl
patterns_of now fold (x ∷ xs) = ap (λ (ws : List Wanted). wanted (now x) fold ∷ ws) (patterns_of now fold xs)

-- the patterns that were read are those of the words
pub globs_are : {X E : Type 0} (now : X → List ℕ) (asked : LocateAsked) (xs : List X) (r : Result (List Wanted) E) → seeks_expressions asked ≡ false
    → map now xs ≡ asked.patterns → IfOk r (λ globs. globs ≡ map (λ (x : X). wanted (now x) asked.fold) xs) → IfOk r (λ globs. globs ≡ globs_of asked)
globs_are now asked xs (Err e) plain texts is = tt
globs_are now asked xs (Ok globs) plain texts is =
    is ∙ patterns_of now asked.fold xs ∙ ap (map (λ pattern. wanted pattern asked.fold)) texts
    ∙ sym (ap (λ (seeks : Bool). if seeks then [] else map (λ pattern. wanted pattern asked.fold) asked.patterns) plain)

-- below the limit of the query
pub below_query : (q r : Query) → q ≡ r → IfSome r.limit (λ limit. 0 < limit) → IfSome q.limit (λ limit. 0 < limit)
below_query q r is below = subst (λ (x : Query). IfSome x.limit (λ limit. 0 < limit)) (sym is) below

-- a run, from its parts
pub ran_by : (asked : LocateAsked) (s s' t : Standing) (os items : List Outcome) (cause : Cause) (q : Query) (sought : Sought) (names : List (List ℕ))
    → q ≡ query_of asked → sought ≡ sought_by asked → names ≡ databases_of asked → os ≡ items
    → Goes (Tried (work_by asked.statistics sought) q) names items s t → IsComplete names items
    → Concludes asked items t.matched t.taken s'.taken t.held_back s'.held_back t.writes_failed s'.writes_failed cause
    → s'.given ≡ t.given → s'.asks ≡ t.asks → s'.reads_failed ≡ t.reads_failed → s'.gate_failed ≡ t.gate_failed
    → LocateRan asked s s' os cause
ran_by asked s s' t os items cause q sought names query what databases is goes complete concludes given asks reads gate =
    subst (λ (l : List Outcome). LocateRan asked s s' l cause) (sym is)
    (record {
      after = t;
      goes = subst (λ (x : Query). Goes (Tried (work_by asked.statistics (sought_by asked)) x) (databases_of asked) items s t) query
          (subst (λ (x : Sought). Goes (Tried (work_by asked.statistics x) q) (databases_of asked) items s t) what (subst (λ (ns : List (List ℕ)). Goes (Tried (work_by asked.statistics sought) q) ns items s t) databases goes));
      complete = subst (λ (ns : List (List ℕ)). IsComplete ns items) databases complete;
      concludes = concludes;
      given = given;
      asks = asks;
      reads_failed = reads;
      gate_failed = gate;
    })

-- no name is tried where none is asked for
pub none_of : {X : Type 0} (now : X → List ℕ) (xs : List X) (names : List (List ℕ)) → map now xs ≡ names → names ≡ [] → xs ≡ []
none_of now [] names is none = refl
none_of now (x ∷ xs) names is none = absurd cc
