-- A run of `locate`, as a whole.
use Rattle.std.specs.Prelude.{not, decimal, IsSome, IsTrue, MatchOption, Result, Ok, Err, filter, ◌||◌, ◌&&◌, ◌⊎◌}
use Rattle.std.specs.List.{flat_map, list_any}
use Rattle.std.proofs.lemmas.List.{append-nil}
use Rattle.std.proofs.Common.{rules, ◌≡◌, ℕ, ◌+◌, ◌≤◌, min, Bool, true, false, List, [], ◌∷◌, ◌++◌, length, Option, Some, None, if◌then◌else◌, inl, inr, ⊎_elim, refl, sym, ap, subst, ◌∙◌, arith}
use Rattle.std.proofs.KnownBytes.{Appends-trans}
use Rattle.std.specs.Io.KnownBytes.{Appends}
use Rattle.loc_outside.specs.Causes.{Rose, last_count}
use Rattle.loc_outside.specs.Files.{Files}
use Rattle.posix_regex.specs.Expression.{Expression}
use Rattle.posix_regex.specs.declared.fault.RegexFault.{RegexFault}
use Rattle.tool_words.specs.Locate.{LocateAsked, seeks_expressions}
use Rattle.locate_engine.specs.Sought.{Sought}
use Rattle.locate_engine.specs.declared.query.Query.{Query}
use Rattle.locate_engine.specs.declared.outcome.Outcome.{Outcome}
use Rattle.locate_engine.specs.declared.outcome.Outcome.TheVariants as outcomes
use Rattle.locate_tools.specs.declared.answer.Cause.{Cause}
use Rattle.locate_tools.specs.declared.answer.Cause.TheVariants as causes
use Rattle.locate_tools.specs.Standing.{Standing, Goes, IsComplete}
use Rattle.locate_tools.specs.Tried.{Tried, TriedCount, TriedSearch, Moves, NoneFailed}
use Rattle.locate_tools.specs.Work.{Work, Search, Statistics}
use Rattle.locate_tools.specs.LocateExact.{World, Locates, LocatesIn, may_ask_gate, lines_of, number_of, asks_nothing, databases_of, query_of, found, endings, cause_of, sought_by, work_by, work_of}
use Rattle.locate_tools.specs.LocateRun.{LocateDoes, LocateRan, LocateRun, RefusesRegex, is_write_fault, is_read_fault, is_gate_fault}
use Rattle.locate_tools.specs.Regexes.{RegexAsked, reading}
use Rattle.locate_tools.specs.RegexesAsked.{first_refused, refusal_of, refused_or, regexes_of}
use Rattle.locate_tools.specs.Counted.{CountsAll, statistics_at}
use Rattle.locate_tools.proofs.CountingAll.{goes_gives}
use Rattle.locate_tools.proofs.Finding.{Below, FindsAll, Later, asks_some, goes_on_out, none_first, rose_second, goes_finds, goes_later, moves_later, finds_none}

-- ---- how often calls failed

tried_moves : (work : Work) (query : Query) (name : List ℕ) (a : Standing) (o : Outcome) (b : Standing) → Tried work query name a o b → Moves a o b
tried_moves Statistics query name a o b tried = tried.moves
tried_moves (Search sought) query name a o b tried = tried.answers.moves

-- an outcome of one kind, in a count
one_more : (b : Bool) (o : Outcome) (os : List Outcome) (s t s' : ℕ) → (b ≡ true → Rose s t) → s ≤ t → min (t + length os) last_count ≤ s' → min (s + length (if b then o ∷ os else os)) last_count ≤ s'
one_more true o os s t s' rose le rest = let here = rose refl in omega (arith, here, rest)
one_more false o os s t s' rose le rest = omega (arith, le, rest)

read_is : (o : Outcome) → is_read_fault o ≡ true → o ≡ outcomes.ReadFault
read_is outcomes.ReadFault e = refl
read_is outcomes.Whole e = absurd cc
read_is outcomes.Missing e = absurd cc
read_is outcomes.NotADatabase e = absurd cc
read_is (outcomes.Damage d) e = absurd cc
read_is outcomes.GateFault e = absurd cc
read_is outcomes.TooLarge e = absurd cc
read_is outcomes.LimitReached e = absurd cc
read_is outcomes.WriteFault e = absurd cc

gate_is : (o : Outcome) → is_gate_fault o ≡ true → o ≡ outcomes.GateFault
gate_is outcomes.GateFault e = refl
gate_is outcomes.Whole e = absurd cc
gate_is outcomes.Missing e = absurd cc
gate_is outcomes.NotADatabase e = absurd cc
gate_is (outcomes.Damage d) e = absurd cc
gate_is outcomes.ReadFault e = absurd cc
gate_is outcomes.TooLarge e = absurd cc
gate_is outcomes.LimitReached e = absurd cc
gate_is outcomes.WriteFault e = absurd cc

write_is : (o : Outcome) → is_write_fault o ≡ true → o ≡ outcomes.WriteFault
write_is outcomes.WriteFault e = refl
write_is outcomes.Whole e = absurd cc
write_is outcomes.Missing e = absurd cc
write_is outcomes.NotADatabase e = absurd cc
write_is (outcomes.Damage d) e = absurd cc
write_is outcomes.ReadFault e = absurd cc
write_is outcomes.GateFault e = absurd cc
write_is outcomes.TooLarge e = absurd cc
write_is outcomes.LimitReached e = absurd cc

reads_counted : (one : List ℕ → Standing → Outcome → Standing → Type 0) (names : List (List ℕ)) (os : List Outcome) (s s' : Standing) → ((name : List ℕ) (a : Standing) (o : Outcome) (b : Standing) → one name a o b → Moves a o b) → Goes one names os s s' → min (s.reads_failed + length (filter is_read_fault os)) last_count ≤ s'.reads_failed
reads_counted one [] [] s s' each goes = let same = ap (λ (u : Standing). u.reads_failed) goes in omega (arith, same)
reads_counted one (n ∷ ns) [] s s' each goes = let same = ap (λ (u : Standing). u.reads_failed) goes in omega (arith, same)
reads_counted one [] (o ∷ os) s s' each goes = absurd goes
reads_counted one (n ∷ ns) (o ∷ os) s s' each goes =
    let moves = each n s o goes.0 goes.1 in
    one_more (is_read_fault o) o (filter is_read_fault os) s.reads_failed goes.0.reads_failed s'.reads_failed (λ e. moves.read_fault (read_is o e)) moves.reads (reads_counted one ns os goes.0 s' each goes.2)

gates_counted : (one : List ℕ → Standing → Outcome → Standing → Type 0) (names : List (List ℕ)) (os : List Outcome) (s s' : Standing) → ((name : List ℕ) (a : Standing) (o : Outcome) (b : Standing) → one name a o b → Moves a o b) → Goes one names os s s' → min (s.gate_failed + length (filter is_gate_fault os)) last_count ≤ s'.gate_failed
gates_counted one [] [] s s' each goes = let same = ap (λ (u : Standing). u.gate_failed) goes in omega (arith, same)
gates_counted one (n ∷ ns) [] s s' each goes = let same = ap (λ (u : Standing). u.gate_failed) goes in omega (arith, same)
gates_counted one [] (o ∷ os) s s' each goes = absurd goes
gates_counted one (n ∷ ns) (o ∷ os) s s' each goes =
    let moves = each n s o goes.0 goes.1 in
    one_more (is_gate_fault o) o (filter is_gate_fault os) s.gate_failed goes.0.gate_failed s'.gate_failed (λ e. moves.gate_fault (gate_is o e)) moves.gate (gates_counted one ns os goes.0 s' each goes.2)

-- a failed write among the outcomes: such a call failed
write_rose_by : (b : Bool) (o : Outcome) (os : List Outcome) (s t s' : Standing) → is_write_fault o ≡ b → Moves s o t → Later t s' → (list_any is_write_fault os ≡ true → Rose t.writes_failed s'.writes_failed) → (b || list_any is_write_fault os) ≡ true → Rose s.writes_failed s'.writes_failed
write_rose_by true o os s t s' e moves rest next some = let here = moves.write_fault (write_is o e) in omega (arith, here, rest.writes)
write_rose_by false o os s t s' e moves rest next some = let there = next some in omega (arith, there, moves.writes)

writes_rose : (one : List ℕ → Standing → Outcome → Standing → Type 0) (names : List (List ℕ)) (os : List Outcome) (s s' : Standing) → ((name : List ℕ) (a : Standing) (o : Outcome) (b : Standing) → one name a o b → Moves a o b) → Goes one names os s s' → list_any is_write_fault os ≡ true → Rose s.writes_failed s'.writes_failed
writes_rose one [] [] s s' each goes some = absurd cc
writes_rose one (n ∷ ns) [] s s' each goes some = absurd cc
writes_rose one [] (o ∷ os) s s' each goes some = absurd goes
writes_rose one (n ∷ ns) (o ∷ os) s s' each goes some =
    write_rose_by (is_write_fault o) o os s goes.0 s' refl (each n s o goes.0 goes.1)
    (goes_later one ns os goes.0 s' (λ name a p b done. moves_later a p b (each name a p b done)) goes.2)
    (writes_rose one ns os goes.0 s' each goes.2) some

-- ---- where no call failed

some_or_none : (b : Bool) (P : Type 0) → (b ≡ true → P) → (b ≡ false → P) → P
some_or_none true P some none = some refl
some_or_none false P some none = none refl

asked_below : (limit : Option ℕ) → asks_nothing limit ≡ false → Below limit 0
asked_below None e = tt
asked_below (Some n) e = search rules

no_outcome : (os : List Outcome) → IsComplete [] os → os ≡ []
no_outcome [] complete = refl
no_outcome (o ∷ os) complete = absurd complete

goes_nowhere : (one : List ℕ → Standing → Outcome → Standing → Type 0) (os : List Outcome) (s s' : Standing) → os ≡ [] → Goes one [] os s s' → s ≡ s'
goes_nowhere one [] s s' none goes = goes
goes_nowhere one (o ∷ os) s s' none goes = absurd goes

-- what was found over the databases that are tried
finds_by : (nothing : Bool) (sought : Sought) (query : Query) (world : World) (names : List (List ℕ)) (os : List Outcome) (s s' : Standing) → s.files ≡ Some world.files
    → (nothing ≡ false → Below query.limit s.matched)
    → Goes (TriedSearch sought query) (if nothing then [] else names) os s s' → IsComplete (if nothing then [] else names) os → NoneFailed s s'
    → (asks_some query world.files (if nothing then [] else names) ≡ true → s.tests ≡ Some world.tests)
    → FindsAll sought query world (if nothing then [] else names) s os s'
finds_by true sought query world names os s s' files below goes complete none fits =
    let empty = no_outcome os complete in
    subst (λ (x : List Outcome). FindsAll sought query world [] s x s') (sym empty) (finds_none sought query world s s' (goes_nowhere (TriedSearch sought query) os s s' empty goes))
finds_by false sought query world names os s s' files below goes complete none fits = goes_finds sought query world names os s s' files goes complete none (below refl) fits

-- exactly what the world says was printed and answered
exact_of : (asked : LocateAsked) (world : World) (s s' : Standing) (os : List Outcome) (cause : Cause) → s.matched ≡ 0 → asked.statistics ≡ false → s.files ≡ Some world.files → (IsTrue (may_ask_gate asked world.files (databases_of asked)) → s.tests ≡ Some world.tests)
    → LocateRan asked s s' os cause → NoneFailed s s' → Locates asked world s.taken s'.taken os cause
exact_of asked world s s' os cause zero stat files fits r none =
    let q = query_of asked in
    let sought = sought_by asked in
    let rest : Later r.after s' = record { reads = omega (arith, r.reads_failed); gate = omega (arith, r.gate_failed); writes = r.concludes.later } in
    let before : NoneFailed s r.after = none_first s r.after s' rest none in
    let first : Later s r.after = goes_later (Tried (work_of asked) q) (databases_of asked) os s r.after (λ name a o b t. moves_later a o b (tried_moves (work_of asked) q name a o b t)) r.goes in
    let names : databases_of asked ≡ (if asks_nothing asked.limit then [] else asked.databases) = ap (λ (b : Bool). if not b && asks_nothing asked.limit then [] else asked.databases) stat in
    let goes : Goes (TriedSearch sought q) (if asks_nothing asked.limit then [] else asked.databases) os s r.after =
    subst (λ (b : Bool). Goes (Tried (work_by b sought) q) (if not b && asks_nothing asked.limit then [] else asked.databases) os s r.after) stat r.goes in
    let complete : IsComplete (if asks_nothing asked.limit then [] else asked.databases) os = subst (λ (l : List (List ℕ)). IsComplete l os) names r.complete in
    let finds = finds_by (asks_nothing asked.limit) sought q world asked.databases os s r.after files (λ e. subst (λ (m : ℕ). Below asked.limit m) (sym zero) (asked_below asked.limit e)) goes complete before
    (subst (λ (l : List (List ℕ)). asks_some q world.files l ≡ true → s.tests ≡ Some world.tests) names fits) in
    let unwritten : list_any is_write_fault os ≡ false =
    some_or_none (list_any is_write_fault os) (list_any is_write_fault os ≡ false)
    (λ e. absurd (before.2 (writes_rose (TriedSearch sought q) _ os s r.after (λ name a o b t. t.answers.moves) goes e))) (λ e. e) in
    let ended = r.concludes.writes unwritten (λ e. let broke = r.concludes.breaks unwritten e in none.2 (rose_second s.writes_failed r.after.writes_failed s'.writes_failed first.writes broke.1.0)) in
    let counts : r.after.matched ≡ 0 + length (found sought q world 0 (if asks_nothing asked.limit then [] else asked.databases)) =
    subst (λ (m : ℕ). r.after.matched ≡ m + length (found sought q world m (if asks_nothing asked.limit then [] else asked.databases))) zero finds.counts in
    let count : r.after.matched ≡ length (found sought q world 0 (if asks_nothing asked.limit then [] else asked.databases)) = omega (arith, counts) in
    let lines : Appends s.taken r.after.taken (lines_of q (found sought q world 0 (if asks_nothing asked.limit then [] else asked.databases))) =
    subst (λ (m : ℕ). Appends s.taken r.after.taken (lines_of q (found sought q world m (if asks_nothing asked.limit then [] else asked.databases)))) zero finds.prints in
    let number : Appends r.after.taken s'.taken (number_of q r.after.matched) =
    subst (λ (b : Bool). Appends r.after.taken s'.taken (if (if b then false else asked.count_only) then decimal r.after.matched ++ 10 ∷ [] else [])) stat ended.1 in
    let why : cause ≡ cause_of asked.limit r.after.matched = ended.0 ∙ ap (λ (b : Bool). if b then causes.Done else cause_of asked.limit r.after.matched) stat in
    subst (λ (l : List (List ℕ)). LocatesIn asked world l s.taken s'.taken os cause) (sym names)
    (record {
      prints = subst (λ (m : ℕ). Appends s.taken s'.taken (lines_of q (found sought q world 0 (if asks_nothing asked.limit then [] else asked.databases)) ++ number_of q m)) count (Appends-trans s.taken r.after.taken s'.taken _ _ lines number);
      ends = finds.ends ∙ ap (λ (m : ℕ). endings sought q world m (if asks_nothing asked.limit then [] else asked.databases)) zero;
      answer = why ∙ ap (cause_of asked.limit) count;
    })

-- exactly the statistics of the world were written
counted_of : (asked : LocateAsked) (files : Files) (s s' : Standing) (os : List Outcome) (cause : Cause) → asked.statistics ≡ true → s.files ≡ Some files
    → LocateRan asked s s' os cause → NoneFailed s s' → CountsAll asked files s.taken s'.taken os cause
counted_of asked files s s' os cause stat told r none =
    let q = query_of asked in
    let rest : Later r.after s' = record { reads = omega (arith, r.reads_failed); gate = omega (arith, r.gate_failed); writes = r.concludes.later } in
    let before : NoneFailed s r.after = none_first s r.after s' rest none in
    let first : Later s r.after = goes_later (Tried (work_of asked) q) (databases_of asked) os s r.after (λ name a o b t. moves_later a o b (tried_moves (work_of asked) q name a o b t)) r.goes in
    let names : databases_of asked ≡ asked.databases = ap (λ (b : Bool). if not b && asks_nothing asked.limit then [] else asked.databases) stat in
    let goes : Goes TriedCount asked.databases os s r.after = subst (λ (b : Bool). Goes (Tried (work_by b (sought_by asked)) q) (if not b && asks_nothing asked.limit then [] else asked.databases) os s r.after) stat r.goes in
    let complete : IsComplete asked.databases os = subst (λ (l : List (List ℕ)). IsComplete l os) names r.complete in
    let gives = goes_gives files asked.databases os s r.after told goes complete before in
    let unwritten : list_any is_write_fault os ≡ false =
    some_or_none (list_any is_write_fault os) (list_any is_write_fault os ≡ false)
    (λ e. absurd (before.2 (writes_rose TriedCount _ os s r.after (λ name a o b t. t.moves) goes e))) (λ e. e) in
    let ended = r.concludes.writes unwritten (λ e. let broke = r.concludes.breaks unwritten e in none.2 (rose_second s.writes_failed r.after.writes_failed s'.writes_failed first.writes broke.1.0)) in
    let nothing : Appends r.after.taken s'.taken [] =
    subst (λ (b : Bool). Appends r.after.taken s'.taken (if (if b then false else asked.count_only) then decimal r.after.matched ++ 10 ∷ [] else [])) stat ended.1 in
    let why : cause ≡ causes.Done = ended.0 ∙ ap (λ (b : Bool). if b then causes.Done else cause_of asked.limit r.after.matched) stat in
    record {
      writes = subst (λ (x : List ℕ). Appends s.taken s'.taken x) (append-nil (flat_map (statistics_at files) asked.databases)) (Appends-trans s.taken r.after.taken s'.taken _ _ gives.writes nothing);
      ends = gives.ends;
      answer = why;
    }

-- ---- the whole contract

pub run_nothing : (asked : LocateAsked) (s : Standing) → LocateRun asked s s [] causes.OutOfMemory
run_nothing asked s = record {
  no_memory = λ e. refl;
  ran = λ other. absurd (other refl);
  exact = λ other. absurd (other refl);
  counted = λ other. absurd (other refl);
  read_faults = omega arith;
  gate_faults = omega arith;
  write_fault = λ e. absurd cc;
  write_failed = λ e. absurd cc;
  number_only = λ e. absurd cc;
  passed_on = λ none out. out;
}

pub run_done : (asked : LocateAsked) (s s' : Standing) (os : List Outcome) (cause : Cause) → s.matched ≡ 0 → (cause ≡ causes.OutOfMemory → ⊥) → LocateRan asked s s' os cause → LocateRun asked s s' os cause
run_done asked s s' os cause zero other r =
    let one = Tried (work_of asked) (query_of asked) in
    let reads = reads_counted one (databases_of asked) os s r.after (tried_moves (work_of asked) (query_of asked)) r.goes in
    let gates = gates_counted one (databases_of asked) os s r.after (tried_moves (work_of asked) (query_of asked)) r.goes in
    let first : Later s r.after = goes_later one (databases_of asked) os s r.after (λ name a o b t. moves_later a o b (tried_moves (work_of asked) (query_of asked) name a o b t)) r.goes in
    let wrote : cause ≡ causes.WriteFault → Rose s.writes_failed s'.writes_failed = λ e. some_or_none (list_any is_write_fault os) (Rose s.writes_failed s'.writes_failed)
    (λ some. let rose = writes_rose one (databases_of asked) os s r.after (tried_moves (work_of asked) (query_of asked)) r.goes some in let late = r.concludes.later in omega (arith, rose, late))
    (λ nowhere. let broke = r.concludes.breaks nowhere e in rose_second s.writes_failed r.after.writes_failed s'.writes_failed first.writes broke.1.0) in
    record {
      no_memory = λ e. absurd (other e);
      ran = λ o. r;
      exact = λ o stat world files fits none. exact_of asked world s s' os cause zero stat files fits r none;
      counted = λ o stat files told none. counted_of asked files s s' os cause stat told r none;
      read_faults = omega (arith, reads, r.reads_failed);
      gate_faults = omega (arith, gates, r.gate_failed);
      write_fault = wrote;
      write_failed = λ some. (r.concludes.stops some).0;
      number_only = λ e nowhere. (r.concludes.breaks nowhere e).0;
      passed_on = λ none out. r.concludes.passed_on (λ e. none (wrote e)) (some_or_none (list_any is_write_fault os) (r.after.held_back ≡ 0)
          (λ some. absurd (none (wrote (r.concludes.stops some).0)))
          (λ nowhere. goes_on_out one (databases_of asked) os s r.after (tried_moves (work_of asked) (query_of asked)) r.goes nowhere out));
    }

-- ---- what `locate` does

-- memory ran out
pub does_nothing : (asked : LocateAsked) (s : Standing) → LocateDoes asked s s [] causes.OutOfMemory
does_nothing asked s = by (refusal_of asked) where
  by : (r : Option Cause) → MatchOption r (LocateRun asked s s [] causes.OutOfMemory) (λ refusal. RefusesRegex refusal s s [] causes.OutOfMemory)
  by None = run_nothing asked s
  by (Some refusal) = record { answer = inr refl; none = refl; same = refl }

-- no expression is refused
pub does_run : (asked : LocateAsked) (s s' : Standing) (os : List Outcome) (cause : Cause) → refusal_of asked ≡ None → LocateRun asked s s' os cause → LocateDoes asked s s' os cause
does_run asked s s' os cause none run =
    subst (λ (r : Option Cause). MatchOption r (LocateRun asked s s' os cause) (λ refusal. RefusesRegex refusal s s' os cause)) (sym none) run

-- one is refused, or memory ran out
pub does_refuse : (asked : LocateAsked) (s : Standing) (cause : Cause) → (cause ≡ causes.OutOfMemory) ⊎ (refusal_of asked ≡ Some cause) → LocateDoes asked s s [] cause
does_refuse asked s cause why = ⊎_elim
    (λ memory. subst (λ (c : Cause). LocateDoes asked s s [] c) (sym memory) (does_nothing asked s))
    (λ refused. subst (λ (r : Option Cause). MatchOption r (LocateRun asked s s [] cause) (λ refusal. RefusesRegex refusal s s [] cause)) (sym refused)
    (record { answer = inl refl; none = refl; same = refl }))
    why

-- a run that ended before the first database
pub does_untried : (asked : LocateAsked) (s : Standing) (os : List Outcome) (cause cause' : Cause) → os ≡ [] → cause' ≡ cause → (cause ≡ causes.OutOfMemory) ⊎ (refusal_of asked ≡ Some cause) → LocateDoes asked s s os cause'
does_untried asked s os cause cause' none is why =
    subst (λ (l : List Outcome). LocateDoes asked s s l cause') (sym none) (subst (λ (c : Cause). LocateDoes asked s s [] c) (sym is) (does_refuse asked s cause why))

pub not_both : (r : Option Cause) → r ≡ None → IsSome r → ⊥
not_both None none some = let off : false ≡ true = some in absurd cc
not_both (Some refusal) none some = absurd cc

not_usage_here : (number : ℕ) (r : Result Expression RegexFault) (later : Option Cause) (cause : Cause) → (later ≡ Some cause → ⊥) → refused_or number r later ≡ Some cause → cause ≡ causes.Usage → ⊥
not_usage_here number (Ok e) later cause none is usage = none is
not_usage_here number (Err fault) later cause none is usage =
    let both : Some (causes.BadRegex number fault.place fault.cause) ≡ Some causes.Usage = is ∙ ap (λ (c : Cause). Some c) usage in absurd cc

first_no_usage : (number : ℕ) (regexes : List RegexAsked) (cause : Cause) → first_refused number regexes ≡ Some cause → cause ≡ causes.Usage → ⊥
first_no_usage number [] cause is usage = absurd cc
first_no_usage number (regex ∷ regexes) cause is usage =
    not_usage_here number (reading regex) (first_refused (number + 1) regexes) cause (λ later. first_no_usage (number + 1) regexes cause later usage) is usage

pub refused_no_usage : (asked : LocateAsked) (cause : Cause) → (cause ≡ causes.OutOfMemory) ⊎ (refusal_of asked ≡ Some cause) → cause ≡ causes.Usage → ⊥
refused_no_usage asked cause why usage = ⊎_elim
    (λ memory. let both : causes.OutOfMemory ≡ causes.Usage = sym memory ∙ usage in absurd cc)
    (λ refused. by (seeks_expressions asked) refused)
    why
  where
    by : (seeks : Bool) → (if seeks then first_refused 0 (regexes_of asked) else None) ≡ Some cause → ⊥
    by true is = first_no_usage 0 (regexes_of asked) cause is usage
    by false is = absurd cc

-- nothing is held back
pub does_pass_on : (asked : LocateAsked) (s s' : Standing) (os : List Outcome) (cause : Cause) → LocateDoes asked s s' os cause → (Rose s.writes_failed s'.writes_failed → ⊥) → s.held_back ≡ 0 → s'.held_back ≡ 0
does_pass_on asked s s' os cause does sound out = by (refusal_of asked) does where
  by : (r : Option Cause) → MatchOption r (LocateRun asked s s' os cause) (λ refusal. RefusesRegex refusal s s' os cause) → s'.held_back ≡ 0
  by None run = run.passed_on sound out
  by (Some refusal) refused = ap (λ (t : Standing). t.held_back) refused.same ∙ out
