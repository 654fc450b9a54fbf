-- What a search did that is passed on.
use Rattle.std.specs.Prelude.{IfSome, IsTrue, ◌||◌}
use Rattle.std.proofs.Common.{◌≡◌, ℕ, ◌-◌, ◌≤◌, ◌^◌, Bool, false, List, Option, Some, None, inl, inr, refl, sym, ap, subst, ◌∙◌, arith}
use Rattle.std.specs.FinMap.{get}
use Rattle.loc_outside.specs.Causes.{Rose}
use Rattle.loc_outside.specs.Gates.{Tests}
use Rattle.byte_feed.specs.Paths.{ToCome}
use Rattle.any_db.specs.Formats.{is_gated}
use Rattle.locate_engine.specs.Files.{ReadsWithin, SearchesAll, SearchesFound, SearchesNamed, SearchesPart}
use Rattle.locate_engine.specs.Passing.{Rule, rule_of, tests_asked}
use Rattle.locate_engine.specs.Searched.{SearchesTo, Stand, is_missing_or_read_fault, seen_in}
use Rattle.locate_engine.specs.Sight.{Sight}
use Rattle.locate_engine.specs.Sought.{Sought}
use Rattle.locate_engine.specs.declared.query.Query.{Query}
use Rattle.locate_engine.specs.declared.outcome.Outcome.{Outcome}
use Rattle.locate_engine.specs.declared.outcome.Outcome.TheVariants as outcomes
use Rattle.locate_engine.proofs.Endings.{on_off}
use Rattle.locate_engine.proofs.Told.{if_each}
use Rattle.locate_tools.specs.Standing.{Standing, ends_run, sight_in}
use Rattle.locate_tools.specs.Tried.{EndedBy, EndsAs, IsMissingOrFailed, NoneFailed, ReadsIn, Searched, SearchedAll, TriedSearch, stand_of}

-- ---- how a search ended that is passed on

pub as_ended : (ended outcome o : Outcome) → EndsAs ended outcome → outcome ≡ o → (o ≡ outcomes.WriteFault → ⊥) → ended ≡ o
as_ended ended outcome o (inl e) is other = sym e ∙ is
as_ended ended outcome o (inr e) is other = absurd (other (sym is ∙ e))

under_as : (ended outcome : Outcome) → EndsAs ended outcome → ends_run outcome ≡ false → ended ≡ outcomes.LimitReached → ⊥
under_as ended outcome (inl e) on is = on_off (sym (ap ends_run (e ∙ is)) ∙ on)
under_as ended outcome (inr e) on is = on_off (sym (ap ends_run e) ∙ on)

pub missing_as : (ended outcome : Outcome) → EndsAs ended outcome → IsTrue (is_missing_or_read_fault ended) → IsMissingOrFailed outcome
missing_as ended outcome (inl e) missing = inl (subst (λ (o : Outcome). IsTrue (is_missing_or_read_fault o)) (sym e) missing)
missing_as ended outcome (inr e) missing = inr e

pub reads_as : (file : List ℕ) (g g' : ℕ) (ended outcome : Outcome) → EndsAs ended outcome → ReadsWithin file g g' ended → ReadsWithin file g g' outcome
reads_as file g g' ended outcome (inl e) once = subst (λ (o : Outcome). ReadsWithin file g g' o) (sym e) once
reads_as file g g' ended outcome (inr e) once = subst (λ (o : Outcome). ReadsWithin file g g' o) (sym e) (record { most = once.most; whole = λ is. absurd cc; too_large = λ is. absurd cc })

-- ---- steps are not counted here

uncounted_to : (rule : Rule) (bound : List ℕ → ℕ) (seen : ToCome) (old new : Stand) (n n' : ℕ) (result : Outcome) (far : ℕ) → SearchesTo rule bound seen old new n n' result far → SearchesTo rule (λ path. 0) seen old new 0 0 result far
uncounted_to rule bound seen old new n n' result far done = record {
  did = record {
    at = done.did.at;
    behind = done.did.behind;
    paths = done.did.paths;
    prints = done.did.prints;
    counts = done.did.counts;
    asks = done.did.asks;
    within = omega arith;
    stops = done.did.stops;
  };
  near = done.near;
}

uncounted_by : (asks : Option Tests) (wanted : List ℕ → Bool) (bound : List ℕ → ℕ) (query : Query) (file : List ℕ) (g g' : ℕ) (old new : Stand) (n n' : ℕ) (result : Outcome) (P : Type 0)
    → IfSome asks (λ told. P → SearchesTo (rule_of wanted query (is_gated file) told) bound (seen_in file (g' - g) result) old new n n' result (g' - g))
    → IfSome asks (λ told. P → SearchesTo (rule_of wanted query (is_gated file) told) (λ path. 0) (seen_in file (g' - g) result) old new 0 0 result (g' - g))
uncounted_by None wanted bound query file g g' old new n n' result P done = tt
uncounted_by (Some told) wanted bound query file g g' old new n n' result P done = λ p. uncounted_to (rule_of wanted query (is_gated file) told) bound (seen_in file (g' - g) result) old new n n' result (g' - g) (done p)

-- what a search sees that counts steps
abbrev pub sight_at : Standing → ℕ → Sight
sight_at s steps = record (sight_in s) { steps = steps }

uncounted_file : (sought : Sought) (query : Query) (file : List ℕ) (s t : Standing) (n n' : ℕ) (ended : Outcome) → SearchesPart sought query file (sight_at s n) ended (sight_at t n') → Searched sought query file s ended t
uncounted_file sought query file s t n n' ended done =
    uncounted_by (tests_asked (is_gated file || query.existing) s.tests) sought.wanted sought.bound query file s.given t.given (stand_of s) (stand_of t) n n' ended (ended ≡ outcomes.ReadFault → s.given ≤ 2 ^ 63) done

-- ---- what was passed on

-- where a run stands once what was printed was passed on
abbrev pub passed_on : Standing → ℕ → ℕ → Standing
passed_on t held failed = record t { held_back = held; writes_failed = failed }

module _ (sought : Sought) (query : Query) (name : List ℕ) (s t : Standing) (n n' : ℕ) (ended outcome : Outcome) (held failed : ℕ) (later : t.writes_failed ≤ failed) (ends : EndsAs ended outcome)
    (fault : outcome ≡ outcomes.WriteFault → Rose s.writes_failed failed) (done : SearchesNamed sought query name (sight_at s n) ended (sight_at t n')) where
  missing_in : (there : Option (List ℕ)) → SearchesFound sought query there (sight_at s n) ended (sight_at t n') → outcome ≡ outcomes.Missing → there ≡ None
  missing_in None found is = refl
  missing_in (Some file) found is = absurd (found.there (as_ended ended outcome outcomes.Missing ends is (λ e. absurd cc)))

  absent_in : (there : Option (List ℕ)) → SearchesFound sought query there (sight_at s n) ended (sight_at t n') → there ≡ None → IsMissingOrFailed outcome
  absent_in None found none = missing_as ended outcome ends found.ended
  absent_in (Some file) found none = absurd cc

  nothing_in : (there : Option (List ℕ)) → SearchesFound sought query there (sight_at s n) ended (sight_at t n') → there ≡ None → stand_of t ≡ stand_of s
  nothing_in None found none = found.idle.1
  nothing_in (Some file) found none = absurd cc

  reads_in : (there : Option (List ℕ)) → SearchesFound sought query there (sight_at s n) ended (sight_at t n') → ReadsIn there s.given t.given outcome
  reads_in None found = found.idle.0
  reads_in (Some file) found = reads_as file s.given t.given ended outcome ends found.read

  searched_in : (there : Option (List ℕ)) → SearchesFound sought query there (sight_at s n) ended (sight_at t n')
      → IfSome there (λ file. (e : Outcome) × EndsAs e outcome × EndedBy e s (passed_on t held failed) × Searched sought query file s e (passed_on t held failed))
  searched_in None found = tt
  searched_in (Some file) found = (ended, ends, (done.moves.reads.fault, done.moves.gate_fault), uncounted_file sought query file s t n n' ended found.part)

  all_as : (file : List ℕ) (o : Outcome) → EndsAs ended o → (o ≡ outcomes.WriteFault → Rose s.writes_failed failed) → (Rose s.writes_failed failed → ⊥) → SearchesAll sought query file (sight_at s n) ended (sight_at t n') → SearchedAll sought query file s o (passed_on t held failed)
  all_as file o (inl e) broke none all = subst (λ (x : Outcome). SearchedAll sought query file s x (passed_on t held failed)) (sym e) all
  all_as file o (inr e) broke none all = absurd (none (broke e))

  whole_in : (there : Option (List ℕ)) → SearchesFound sought query there (sight_at s n) ended (sight_at t n') → IfSome there (λ file. NoneFailed s (passed_on t held failed) → SearchedAll sought query file s outcome (passed_on t held failed))
  whole_in None found = tt
  whole_in (Some file) found = λ none. all_as file outcome ends fault none.2 (found.exact (none.0, none.1, λ rose. none.2 (omega (arith, later, rose))))

  search_passed_by : ((outcome ≡ outcomes.WriteFault → ⊥) → held ≡ 0) → (IsTrue query.count_only → t.taken ≡ s.taken) → TriedSearch sought query name s outcome (passed_on t held failed)
  search_passed_by out quiet = record {
    answers = record {
      moves = record {
        files = done.moves.files;
        tests = done.moves.tests;
        given = done.moves.reads.gives;
        given_within = done.moves.reads.within;
        matched = done.moves.matched;
        matched_within = done.moves.matched_within;
        reads = done.moves.reads.later;
        gate = done.moves.gate;
        writes = omega (arith, done.moves.writes, later);
        read_fault = λ e. done.moves.reads.fault (as_ended ended outcome outcomes.ReadFault ends e (λ x. absurd cc));
        gate_fault = λ e. done.moves.gate_fault (as_ended ended outcome outcomes.GateFault ends e (λ x. absurd cc));
        write_fault = fault;
        passed_on = out;
      };
      missing = if_each s.files _ _ (λ files found is. missing_in (get files name) found is) done.found;
      absent = if_each s.files _ _ (λ files found none. absent_in (get files name) found none) done.found;
      nothing = if_each s.files _ _ (λ files found none. nothing_in (get files name) found none) done.found;
      reaches = λ e. done.limit.reached (as_ended ended outcome outcomes.LimitReached ends e (λ x. absurd cc));
    };
    reads = if_each s.files _ _ (λ files found. reads_in (get files name) found) done.found;
    searched = if_each s.files _ _ (λ files found. searched_in (get files name) found) done.found;
    whole = if_each s.files _ _ (λ files found. whole_in (get files name) found) done.found;
    under = λ on. done.limit.under (under_as ended outcome ends on);
    unopened = λ e. let idle = done.idle (as_ended ended outcome outcomes.Missing ends e (λ x. absurd cc)) in (idle.1, idle.0);
    unprinted = quiet;
  }

  pub search_passed : (taken : Option (List ℕ)) → taken ≡ t.taken → ((outcome ≡ outcomes.WriteFault → ⊥) → held ≡ 0) → (IsTrue query.count_only → t.taken ≡ s.taken)
      → TriedSearch sought query name s outcome (record t { taken = taken; held_back = held; writes_failed = failed })
  search_passed taken same out quiet = subst (λ (o : Option (List ℕ)). TriedSearch sought query name s outcome (record t { taken = o; held_back = held; writes_failed = failed })) (sym same) (search_passed_by out quiet)
