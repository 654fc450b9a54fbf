-- What is found in a list of databases where no call fails.
use Rattle.std.specs.Prelude.{◌||◌, nat_eq, IfSome}
use Rattle.std.proofs.Common.{rules, ◌≡◌, ℕ, zero, suc, ◌+◌, ◌-◌, ◌<◌, ◌≤◌, min, Bool, true, false, List, [], ◌∷◌, ◌++◌, length, take, Option, Some, None, MatchBool, if◌then◌else◌, refl, sym, ap, subst, ◌∙◌, inl, inr, arith, length-append}
use Rattle.std.proofs.lemmas.List.{append-nil, length-take}
use Rattle.std.proofs.lemmas.Grind.{flat_map-append}
use Rattle.std.proofs.KnownBytes.{Appends-trans, Appends-nil}
use Rattle.std.specs.List.{flat_map, list_any}
use Rattle.std.specs.FinMap.{get}
use Rattle.std.specs.Io.KnownBytes.{Appends}
use Rattle.loc_outside.specs.Causes.{Rose}
use Rattle.loc_outside.specs.Files.{Files}
use Rattle.loc_outside.specs.Gates.{Tests}
use Rattle.byte_feed.specs.Paths.{PathAt, ToCome}
use Rattle.locate_engine.specs.Passing.{Rule, up_to, tests_asked}
use Rattle.locate_engine.specs.Searched.{Stand, SearchesWhole, at_limit, outcome_of}
use Rattle.locate_engine.specs.Sought.{Sought}
use Rattle.any_db.specs.Formats.{contents, is_gated}
use Rattle.locate_engine.specs.declared.query.Query.{Query}
use Rattle.locate_engine.specs.declared.outcome.Outcome.{Outcome}
use Rattle.locate_engine.specs.declared.outcome.Outcome.TheVariants as outcomes
use Rattle.byte_feed.specs.declared.damage.DbFault.TheVariants as faults
use Rattle.byte_feed.specs.Endings.{Ending}
use Rattle.std.specs.Prelude.{Ok, Err}
use Rattle.locate_tools.specs.LocateRun.{is_write_fault}
use Rattle.locate_tools.specs.Standing.{Standing, Goes, IsComplete, ends_run}
use Rattle.locate_tools.specs.Tried.{TriedSearch, Moves, NoneFailed, IsMissingOrFailed, SearchedAll, stand_of}
use Rattle.locate_tools.specs.LocateExact.{World, gated_in, passing_in, passing_at, ending_in, ending_at, found, endings, lines_of}

-- ---- counts of failures along a run

-- the counts of failures do not fall
pub record Later (s s' : Standing) : Type 0 where
  pub reads : s.reads_failed ≤ s'.reads_failed
  pub gate : s.gate_failed ≤ s'.gate_failed
  pub writes : s.writes_failed ≤ s'.writes_failed

later_none : (s s' : Standing) → s ≡ s' → Later s s'
later_none s s' same = subst (λ (t : Standing). Later s t) same (record { reads = omega arith; gate = omega arith; writes = omega arith })

pub goes_later : (one : List ℕ → Standing → Outcome → Standing → Type 0) (names : List (List ℕ)) (os : List Outcome) (s s' : Standing) → ((name : List ℕ) (a : Standing) (o : Outcome) (b : Standing) → one name a o b → Later a b) → Goes one names os s s' → Later s s'
goes_later one [] [] s s' each goes = later_none s s' goes
goes_later one (n ∷ ns) [] s s' each goes = later_none s s' goes
goes_later one [] (o ∷ os) s s' each goes = absurd goes
goes_later one (n ∷ ns) (o ∷ os) s s' each goes =
    let here = each n s o goes.0 goes.1 in
    let rest = goes_later one ns os goes.0 s' each goes.2 in
    record { reads = omega (arith, here.reads, rest.reads); gate = omega (arith, here.gate, rest.gate); writes = omega (arith, here.writes, rest.writes) }

pub moves_later : (s : Standing) (o : Outcome) (s' : Standing) → Moves s o s' → Later s s'
moves_later s o s' moves = record { reads = moves.reads; gate = moves.gate; writes = moves.writes }

rose_first : (a b c : ℕ) → b ≤ c → Rose a b → Rose a c
rose_first a b c le rose = omega (arith, le, rose)

pub rose_second : (a b c : ℕ) → a ≤ b → Rose b c → Rose a c
rose_second a b c le rose = omega (arith, le, rose)

-- where no call failed over a run, none failed in its first part, and none in the rest
pub none_first : (s t s' : Standing) → Later t s' → NoneFailed s s' → NoneFailed s t
none_first s t s' later none = (
  λ rose. none.0 (rose_first s.reads_failed t.reads_failed s'.reads_failed later.reads rose),
  λ rose. none.1 (rose_first s.gate_failed t.gate_failed s'.gate_failed later.gate rose),
  λ rose. none.2 (rose_first s.writes_failed t.writes_failed s'.writes_failed later.writes rose),
)

pub none_second : (s t s' : Standing) → Later s t → NoneFailed s s' → NoneFailed t s'
none_second s t s' later none = (
  λ rose. none.0 (rose_second s.reads_failed t.reads_failed s'.reads_failed later.reads rose),
  λ rose. none.1 (rose_second s.gate_failed t.gate_failed s'.gate_failed later.gate rose),
  λ rose. none.2 (rose_second s.writes_failed t.writes_failed s'.writes_failed later.writes rose),
)

-- ---- paths up to a limit

abbrev none_at : List PathAt
none_at = []

take_none : (k : ℕ) → take k none_at ≡ []
take_none zero = refl
take_none (suc k) = refl

take_append : (k : ℕ) (xs ys : List PathAt) → take k (xs ++ ys) ≡ take k xs ++ take (k - length xs) ys
take_append zero [] ys = refl
take_append (suc k) [] ys =
    let same : suc k - 0 ≡ suc k = omega arith in
    ap (λ (n : ℕ). take n ys) (sym same)
take_append zero (x ∷ xs) ys =
    let none : 0 - suc (length xs) ≡ 0 = omega arith in
    ap (λ (n : ℕ). take n ys) (sym none)
take_append (suc k) (x ∷ xs) ys =
    let same : suc k - suc (length xs) ≡ k - length xs = omega arith in
    ap (λ (l : List PathAt). x ∷ l) (take_append k xs ys ∙ ap (λ (n : ℕ). take k xs ++ take n ys) (sym same))

up_to_none : (limit : Option ℕ) (m : ℕ) → up_to limit m [] ≡ []
up_to_none None m = refl
up_to_none (Some n) m = take_none (n - m)

pub up_to_append : (limit : Option ℕ) (m : ℕ) (xs ys : List PathAt) → up_to limit m (xs ++ ys) ≡ up_to limit m xs ++ up_to limit (m + length (up_to limit m xs)) ys
up_to_append None m xs ys = refl
up_to_append (Some n) m xs ys =
    let taken : length (take (n - m) xs) ≡ min (n - m) (length xs) = length-take (n - m) xs in
    let same : n - (m + length (take (n - m) xs)) ≡ (n - m) - length xs = omega arith in
    take_append (n - m) xs ys ∙ ap (λ (k : ℕ). take (n - m) xs ++ take k ys) (sym same)

nat_eq_true : (a b : ℕ) → nat_eq a b ≡ true → a ≡ b
nat_eq_true a b e = search rules

nat_eq_false : (a b : ℕ) → nat_eq a b ≡ false → a ≡ b → ⊥
nat_eq_false a b e same = search rules

-- at the limit nothing more is found
at_limit_none : (limit : Option ℕ) (m : ℕ) (ys : List PathAt) → at_limit limit m ≡ true → up_to limit m ys ≡ []
at_limit_none None m ys e = absurd cc
at_limit_none (Some n) m ys e =
    let same : m ≡ n = nat_eq_true m n e in
    let none : n - m ≡ 0 = omega arith in
    ap (λ (k : ℕ). take k ys) none

abbrev pub Below : Option ℕ → ℕ → Type 0
Below limit m = IfSome limit (λ n. m < n)

-- below the limit, and not at it after what was found, is below it still
still_below : (limit : Option ℕ) (m m' : ℕ) (xs : List PathAt) → Below limit m → m' ≡ m + length (up_to limit m xs) → at_limit limit m' ≡ false → Below limit m'
still_below None m m' xs below counts e = tt
still_below (Some n) m m' xs below counts e =
    let taken : length (take (n - m) xs) ≡ min (n - m) (length xs) = length-take (n - m) xs in
    let other : m' ≡ n → ⊥ = nat_eq_false m' n e in
    omega (arith, below, counts, taken, other)

below_not_at : (limit : Option ℕ) (m : ℕ) → Below limit m → at_limit limit m ≡ false
below_not_at None m below = refl
below_not_at (Some n) m below = search rules

-- ---- one database

abbrev pub rule_by : (List ℕ → Bool) → Query → Bool → Bool → Tests → Rule
rule_by wanted query gated existing tests = record {
  wanted = wanted;
  gated = gated;
  tests = tests;
  existing = existing;
  follow = query.follow;
  separator = query.separator;
  limit = query.limit;
  count_only = query.count_only;
}

-- where nobody asks the gate, its tests do not matter
whole_by : (gated existing : Bool) (wanted : List ℕ → Bool) (query : Query) (tests : Option Tests) (world : Tests) (seen : ToCome) (old new : Stand) (o : Outcome) → ((gated || existing) ≡ true → tests ≡ Some world)
    → IfSome (tests_asked (gated || existing) tests) (λ told. SearchesWhole (rule_by wanted query gated existing told) seen old new o)
    → SearchesWhole (rule_by wanted query gated existing world) seen old new o
whole_by true existing wanted query tests world seen old new o fits whole = subst (λ (t : Option Tests). IfSome t (λ told. SearchesWhole (rule_by wanted query true existing told) seen old new o)) (fits refl) whole
whole_by false true wanted query tests world seen old new o fits whole = subst (λ (t : Option Tests). IfSome t (λ told. SearchesWhole (rule_by wanted query false true told) seen old new o)) (fits refl) whole
whole_by false false wanted query tests world seen old new o fits whole = record { prints = whole.prints; counts = whole.counts; ends = whole.ends }

-- the gate is asked of one database, or of one of these
abbrev pub asks_one : Query → Option (List ℕ) → Bool
asks_one query there = gated_in there || query.existing

abbrev pub asks_some : Query → Files → List (List ℕ) → Bool
asks_some query files names = query.existing || list_any (λ name. gated_in (get files name)) names

asks_head : (g e rest : Bool) → (g || e) ≡ true → (e || (g || rest)) ≡ true
asks_head true true rest is = refl
asks_head true false rest is = refl
asks_head false true rest is = refl
asks_head false false rest is = absurd cc

asks_rest : (g e rest : Bool) → (e || rest) ≡ true → (e || (g || rest)) ≡ true
asks_rest g true rest is = refl
asks_rest true false rest is = refl
asks_rest false false rest is = is

-- What one database gives where no call fails.
pub record Finds (query : Query) (paths : List PathAt) (ending : Outcome) (s : Standing) (o : Outcome) (s' : Standing) : Type 0 where
  pub prints : Appends s.taken s'.taken (lines_of query (up_to query.limit s.matched paths))
  pub counts : s'.matched ≡ s.matched + length (up_to query.limit s.matched paths)
  pub ends : o ≡ (if at_limit query.limit s'.matched then outcomes.LimitReached else ending)

pub unread_missing : (o : Outcome) → IsMissingOrFailed o → (o ≡ outcomes.ReadFault → ⊥) → (o ≡ outcomes.WriteFault → ⊥) → o ≡ outcomes.Missing
unread_missing o (inr e) read write = absurd (write e)
unread_missing outcomes.Missing (inl e) read write = refl
unread_missing outcomes.ReadFault (inl e) read write = absurd (read refl)
unread_missing outcomes.Whole (inl e) read write = absurd cc
unread_missing outcomes.NotADatabase (inl e) read write = absurd cc
unread_missing (outcomes.Damage d) (inl e) read write = absurd cc
unread_missing outcomes.GateFault (inl e) read write = absurd cc
unread_missing outcomes.TooLarge (inl e) read write = absurd cc
unread_missing outcomes.LimitReached (inl e) read write = absurd cc
unread_missing outcomes.WriteFault (inl e) read write = absurd cc

finds_in : (there : Option (List ℕ)) (sought : Sought) (query : Query) (world : Tests) (s : Standing) (o : Outcome) (s' : Standing) → Moves s o s' → NoneFailed s s' → Below query.limit s.matched
    → (asks_one query there ≡ true → s.tests ≡ Some world)
    → (there ≡ None → IsMissingOrFailed o) → (there ≡ None → stand_of s' ≡ stand_of s) → IfSome there (λ file. NoneFailed s s' → SearchedAll sought query file s o s')
    → Finds query (passing_in sought query world there) (ending_in there) s o s'
finds_in None sought query world s o s' moves none below fits absent nothing whole =
    let missing : o ≡ outcomes.Missing = unread_missing o (absent refl) (λ e. none.0 (moves.read_fault e)) (λ e. none.2 (moves.write_fault e)) in
    let same : stand_of s' ≡ stand_of s = nothing refl in
    let taken : s'.taken ≡ s.taken = ap (λ (x : Stand). x.taken) same in
    let matched : s'.matched ≡ s.matched = ap (λ (x : Stand). x.matched) same in
    let empty : up_to query.limit s.matched [] ≡ [] = up_to_none query.limit s.matched in
    record {
      prints = subst (λ (ps : List PathAt). Appends s.taken s'.taken (lines_of query ps)) (sym empty) (subst (λ (t : Option (List ℕ)). Appends s.taken t []) (sym taken) (Appends-nil s.taken));
      counts = subst (λ (ps : List PathAt). s'.matched ≡ s.matched + length ps) (sym empty) (omega (arith, matched));
      ends = subst (λ (b : Bool). o ≡ (if b then outcomes.LimitReached else outcomes.Missing)) (sym (ap (at_limit query.limit) matched ∙ below_not_at query.limit s.matched below)) missing;
    }
finds_in (Some file) sought query world s o s' moves none below fits absent nothing whole =
    let done = whole_by (is_gated file) query.existing sought.wanted query s.tests world (contents file) (stand_of s) (stand_of s') o fits (whole none) in
    record { prints = done.prints; counts = done.counts; ends = done.ends }

pub tried_finds : (sought : Sought) (query : Query) (world : World) (name : List ℕ) (s : Standing) (o : Outcome) (s' : Standing) → s.files ≡ Some world.files → TriedSearch sought query name s o s' → NoneFailed s s' → Below query.limit s.matched
    → (asks_one query (get world.files name) ≡ true → s.tests ≡ Some world.tests) → Finds query (passing_at sought query world name) (ending_at world name) s o s'
tried_finds sought query world name s o s' files tried none below fits =
    finds_in (get world.files name) sought query world.tests s o s' tried.answers.moves none below fits
    (subst (λ (known : Option Files). IfSome known (λ files. get files name ≡ None → IsMissingOrFailed o)) files tried.answers.absent)
    (subst (λ (known : Option Files). IfSome known (λ files. get files name ≡ None → stand_of s' ≡ stand_of s)) files tried.answers.nothing)
    (subst (λ (known : Option Files). IfSome known (λ files. IfSome (get files name) (λ file. NoneFailed s s' → SearchedAll sought query file s o s'))) files tried.whole)

-- ---- all databases

-- What a list of databases gives where no call fails.
pub record FindsAll (sought : Sought) (query : Query) (world : World) (names : List (List ℕ)) (s : Standing) (os : List Outcome) (s' : Standing) : Type 0 where
  pub prints : Appends s.taken s'.taken (lines_of query (found sought query world s.matched names))
  pub counts : s'.matched ≡ s.matched + length (found sought query world s.matched names)
  pub ends : os ≡ endings sought query world s.matched names

read_on : (e : Ending) → ends_run (outcome_of e) ≡ false
read_on (Ok x) = refl
read_on (Err faults.NotADatabase) = refl
read_on (Err (faults.Damage d)) = refl
read_on (Err faults.ReadFault) = refl
read_on (Err faults.TooLarge) = refl

pub ending_on : (there : Option (List ℕ)) → ends_run (ending_in there) ≡ false
ending_on None = refl
ending_on (Some file) = read_on (contents file).ending

pub finds_none : (sought : Sought) (query : Query) (world : World) (s s' : Standing) → s ≡ s' → FindsAll sought query world [] s [] s'
finds_none sought query world s s' same =
    subst (λ (t : Standing). FindsAll sought query world [] s [] t) same
    (let empty : up_to query.limit s.matched [] ≡ [] = up_to_none query.limit s.matched in
    record {
      prints = subst (λ (ps : List PathAt). Appends s.taken s.taken (lines_of query ps)) (sym empty) (Appends-nil s.taken);
      counts = subst (λ (ps : List PathAt). s.matched ≡ s.matched + length ps) (sym empty) (omega arith);
      ends = refl;
    })

-- after the database in which the limit is reached
finds_last : (b : Bool) (sought : Sought) (query : Query) (world : World) (name : List ℕ) (names : List (List ℕ)) (s : Standing) (o : Outcome) (os : List Outcome) (t s' : Standing)
    → at_limit query.limit t.matched ≡ b → Finds query (passing_at sought query world name) (ending_at world name) s o t → Below query.limit s.matched
    → MatchBool (ends_run o) (os ≡ []) (IsComplete names os) → (os ≡ [] → t ≡ s') → (Below query.limit t.matched → IsComplete names os → FindsAll sought query world names t os s')
    → FindsAll sought query world (name ∷ names) s (o ∷ os) s'
finds_last true sought query world name names s o os t s' at finds below complete stops next =
    let now : t.matched ≡ s.matched + length (up_to query.limit s.matched (passing_at sought query world name)) = finds.counts in
    let reached : at_limit query.limit (s.matched + length (up_to query.limit s.matched (passing_at sought query world name))) ≡ true = ap (at_limit query.limit) (sym now) ∙ at in
    let is : o ≡ outcomes.LimitReached = finds.ends ∙ ap (λ (x : Bool). if x then outcomes.LimitReached else ending_at world name) at in
    let none : os ≡ [] = subst (λ (x : Outcome). MatchBool (ends_run x) (os ≡ []) (IsComplete names os)) is complete in
    let end : t ≡ s' = stops none in
    let all : found sought query world s.matched (name ∷ names) ≡ up_to query.limit s.matched (passing_at sought query world name) =
    up_to_append query.limit s.matched (passing_at sought query world name) (flat_map (passing_at sought query world) names)
    ∙ ap (λ (ps : List PathAt). up_to query.limit s.matched (passing_at sought query world name) ++ ps) (at_limit_none query.limit _ (flat_map (passing_at sought query world) names) reached)
    ∙ append-nil (up_to query.limit s.matched (passing_at sought query world name)) in
    subst (λ (u : Standing). FindsAll sought query world (name ∷ names) s (o ∷ os) u) end
    (record {
      prints = subst (λ (ps : List PathAt). Appends s.taken t.taken (lines_of query ps)) (sym all) finds.prints;
      counts = subst (λ (ps : List PathAt). t.matched ≡ s.matched + length ps) (sym all) finds.counts;
      ends = subst (λ (b : Bool). o ∷ os ≡ (if b then outcomes.LimitReached ∷ [] else ending_at world name ∷ endings sought query world (s.matched + length (up_to query.limit s.matched (passing_at sought query world name))) names)) (sym reached) (ap (λ (x : Outcome). x ∷ os) is ∙ ap (λ (x : List Outcome). outcomes.LimitReached ∷ x) none);
    })
finds_last false sought query world name names s o os t s' at finds below complete stops next =
    let now : t.matched ≡ s.matched + length (up_to query.limit s.matched (passing_at sought query world name)) = finds.counts in
    let reached : at_limit query.limit (s.matched + length (up_to query.limit s.matched (passing_at sought query world name))) ≡ false = ap (at_limit query.limit) (sym now) ∙ at in
    let is : o ≡ ending_at world name = finds.ends ∙ ap (λ (x : Bool). if x then outcomes.LimitReached else ending_at world name) at in
    let on : ends_run o ≡ false = ap ends_run is ∙ ending_on (get world.files name) in
    let more : IsComplete names os = subst (λ (b : Bool). MatchBool b (os ≡ []) (IsComplete names os)) on complete in
    let rest = next (still_below query.limit s.matched t.matched (passing_at sought query world name) below now at) more in
    let all : found sought query world s.matched (name ∷ names) ≡ up_to query.limit s.matched (passing_at sought query world name) ++ found sought query world t.matched names =
    up_to_append query.limit s.matched (passing_at sought query world name) (flat_map (passing_at sought query world) names)
    ∙ ap (λ (m : ℕ). up_to query.limit s.matched (passing_at sought query world name) ++ found sought query world m names) (sym now) in
    record {
      prints = subst (λ (ps : List PathAt). Appends s.taken s'.taken (lines_of query ps)) (sym all)
          (subst (λ (text : List ℕ). Appends s.taken s'.taken text) (sym (flat_map-append _ (up_to query.limit s.matched (passing_at sought query world name)) (found sought query world t.matched names)))
          (Appends-trans s.taken t.taken s'.taken _ _ finds.prints rest.prints));
      counts = subst (λ (ps : List PathAt). s'.matched ≡ s.matched + length ps) (sym all)
          (omega (arith, rest.counts, now, length-append (up_to query.limit s.matched (passing_at sought query world name)) (found sought query world t.matched names)));
      ends = subst (λ (b : Bool). o ∷ os ≡ (if b then outcomes.LimitReached ∷ [] else ending_at world name ∷ endings sought query world (s.matched + length (up_to query.limit s.matched (passing_at sought query world name))) names)) (sym reached)
          (ap (λ (x : Outcome). x ∷ os) is ∙ ap (λ (x : List Outcome). ending_at world name ∷ x) (rest.ends ∙ ap (λ (m : ℕ). endings sought query world m names) now));
    }

stops_here : (one : List ℕ → Standing → Outcome → Standing → Type 0) (names : List (List ℕ)) (os : List Outcome) (s s' : Standing) → Goes one names os s s' → os ≡ [] → s ≡ s'
stops_here one [] [] s s' goes none = goes
stops_here one (n ∷ ns) [] s s' goes none = goes
stops_here one [] (o ∷ os) s s' goes none = absurd goes
stops_here one (n ∷ ns) (o ∷ os) s s' goes none = absurd cc

module _ (sought : Sought) (query : Query) (world : World) where
  pub goes_finds : (names : List (List ℕ)) (os : List Outcome) (s s' : Standing) → s.files ≡ Some world.files
      → Goes (TriedSearch sought query) names os s s' → IsComplete names os → NoneFailed s s' → Below query.limit s.matched
      → (asks_some query world.files names ≡ true → s.tests ≡ Some world.tests) → FindsAll sought query world names s os s'
  goes_finds [] [] s s' files goes complete none below fits = finds_none sought query world s s' goes
  goes_finds [] (o ∷ os) s s' files goes complete none below fits = absurd goes
  goes_finds (n ∷ ns) [] s s' files goes complete none below fits = absurd complete
  goes_finds (n ∷ ns) (o ∷ os) s s' files goes complete none below fits =
      let one = TriedSearch sought query in
      let t = goes.0 in
      let tried = goes.1 in
      let moves = tried.answers.moves in
      let here : Later s t = moves_later s o t moves in
      let rest : Later t s' = goes_later one ns os t s' (λ name a p b done. moves_later a p b done.answers.moves) goes.2 in
      let gated : Bool = gated_in (get world.files n) in
      let others : Bool = list_any (λ name. gated_in (get world.files name)) ns in
      finds_last (at_limit query.limit t.matched) sought query world n ns s o os t s' refl
      (tried_finds sought query world n s o t files tried (none_first s t s' rest none) below (λ is. fits (asks_head gated query.existing others is))) below complete (stops_here one ns os t s' goes.2)
      (λ under more. goes_finds ns os t s' (moves.files ∙ files) goes.2 more (none_second s t s' here none) under (λ is. moves.tests ∙ fits (asks_rest gated query.existing others is)))

-- ---- what is held back

either_not : (a b : Bool) → (a || b) ≡ false → (a ≡ false) × (b ≡ false)
either_not true b is = absurd cc
either_not false b is = (refl, is)

no_write : (o : Outcome) → is_write_fault o ≡ false → o ≡ outcomes.WriteFault → ⊥
no_write outcomes.WriteFault is e = absurd cc
no_write outcomes.Whole is e = absurd cc
no_write outcomes.Missing is e = absurd cc
no_write outcomes.NotADatabase is e = absurd cc
no_write (outcomes.Damage d) is e = absurd cc
no_write outcomes.ReadFault is e = absurd cc
no_write outcomes.GateFault is e = absurd cc
no_write outcomes.TooLarge is e = absurd cc
no_write outcomes.LimitReached is e = absurd cc

-- where no write failed, nothing is held back after the databases that was not before
pub goes_on_out : (one : List ℕ → Standing → Outcome → Standing → Type 0) (names : List (List ℕ)) (os : List Outcome) (s s' : Standing) → ((name : List ℕ) (a : Standing) (o : Outcome) (b : Standing) → one name a o b → Moves a o b)
    → Goes one names os s s' → list_any is_write_fault os ≡ false → s.held_back ≡ 0 → s'.held_back ≡ 0
goes_on_out one [] [] s s' each goes none out = sym (ap (λ (u : Standing). u.held_back) goes) ∙ out
goes_on_out one (n ∷ ns) [] s s' each goes none out = sym (ap (λ (u : Standing). u.held_back) goes) ∙ out
goes_on_out one [] (o ∷ os) s s' each goes none out = absurd goes
goes_on_out one (n ∷ ns) (o ∷ os) s s' each goes none out =
    let moves = each n s o goes.0 goes.1 in
    let not = either_not (is_write_fault o) (list_any is_write_fault os) none in
    goes_on_out one ns os goes.0 s' each goes.2 not.1 (moves.passed_on (no_write o not.0))
