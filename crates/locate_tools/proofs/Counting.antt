-- What is written of a database that is counted.
use Rattle.std.specs.Prelude.{IfSome, IsTrue}
use Rattle.std.proofs.Common.{◌≡◌, ℕ, ◌-◌, ◌≤◌, ◌^◌, ◌⊎◌, min, ◌+◌, List, Option, Some, None, refl, sym, subst, arith}
use Rattle.std.specs.FinMap.{get}
use Rattle.std.specs.Io.KnownBytes.{Appends}
use Rattle.loc_outside.specs.Causes.{last_count}
use Rattle.loc_outside.proofs.PartTaken.{part_all}
use Rattle.locate_engine.specs.Searched.{is_missing_or_read_fault, seen_in}
use Rattle.locate_engine.specs.Statistics.{Counts, CountsFound, ends_reading, no_stats}
use Rattle.locate_engine.specs.Sought.{Sought}
use Rattle.locate_engine.specs.declared.counting.Stats.{Stats}
use Rattle.locate_engine.specs.declared.query.Query.{Query}
use Rattle.locate_engine.specs.declared.outcome.Outcome.{Outcome}
use Rattle.locate_engine.specs.declared.outcome.Outcome.TheVariants as outcomes
use Rattle.locate_engine.proofs.Endings.{off_on}
use Rattle.locate_tools.specs.Standing.{Standing}
use Rattle.locate_tools.specs.Tried.{CountsText, EndsAs, IsMissingOrFailed, Moves, ReadsIn, Tried, TriedCount, TriedSearch, WritesAs, work_for}
use Rattle.locate_tools.specs.declared.databases.Work.{Work as WorkAsked}
use Rattle.locate_tools.specs.declared.databases.Work.TheVariants as works
use Rattle.locate_tools.proofs.Searching.{as_ended, missing_as, reads_as}

pub writes_whole : (o : Outcome) (u v : Option (List ℕ)) (text : List ℕ) → Appends u v text → WritesAs o u v text
writes_whole outcomes.Whole u v text all = all
writes_whole outcomes.Missing u v text all = all
writes_whole outcomes.NotADatabase u v text all = all
writes_whole (outcomes.Damage d) u v text all = all
writes_whole outcomes.ReadFault u v text all = all
writes_whole outcomes.GateFault u v text all = all
writes_whole outcomes.TooLarge u v text all = all
writes_whole outcomes.LimitReached u v text all = all
writes_whole outcomes.WriteFault u v text all = part_all u v text all

-- ---- what the statistics of a name say

pub counts_in : (there : Option (List ℕ)) (g g' : ℕ) (stats : Stats) (ended : Outcome) → CountsFound there g g' stats ended → IfSome there (λ file. (ended ≡ outcomes.ReadFault → g ≤ 2 ^ 63) → Counts (seen_in file (g' - g) ended) stats ended)
counts_in None g g' stats ended found = tt
counts_in (Some file) g g' stats ended found = found.exact

pub none_in : (there : Option (List ℕ)) (g g' : ℕ) (stats : Stats) (ended : Outcome) → CountsFound there g g' stats ended → there ≡ None → (stats ≡ no_stats) × IsTrue (is_missing_or_read_fault ended)
none_in None g g' stats ended found none = (found.none, found.ended)
none_in (Some file) g g' stats ended found none = absurd cc

pub reads_in : (there : Option (List ℕ)) (g g' : ℕ) (stats : Stats) (ended outcome : Outcome) → EndsAs ended outcome → CountsFound there g g' stats ended → ReadsIn there g g' outcome
reads_in None g g' stats ended outcome ends found = found.unread
reads_in (Some file) g g' stats ended outcome ends found = reads_as file g g' ended outcome ends found.read

pub missing_in : (there : Option (List ℕ)) (g g' : ℕ) (stats : Stats) (ended outcome : Outcome) → EndsAs ended outcome → CountsFound there g g' stats ended → outcome ≡ outcomes.Missing → there ≡ None
missing_in None g g' stats ended outcome ends found is = refl
missing_in (Some file) g g' stats ended outcome ends found is = absurd (found.there (as_ended ended outcome outcomes.Missing ends is (λ e. absurd cc)))

pub absent_in : (there : Option (List ℕ)) (g g' : ℕ) (stats : Stats) (ended outcome : Outcome) → EndsAs ended outcome → CountsFound there g g' stats ended → there ≡ None → IsMissingOrFailed outcome
absent_in None g g' stats ended outcome ends found none = missing_as ended outcome ends found.ended
absent_in (Some file) g g' stats ended outcome ends found none = absurd cc

pub reads_no_gate : (o : Outcome) → IsTrue (ends_reading o) → o ≡ outcomes.GateFault → ⊥
reads_no_gate o reading is = off_on (subst (λ (p : Outcome). IsTrue (ends_reading p)) is reading)

pub reads_no_write : (o : Outcome) → IsTrue (ends_reading o) → o ≡ outcomes.WriteFault → ⊥
reads_no_write o reading is = off_on (subst (λ (p : Outcome). IsTrue (ends_reading p)) is reading)

-- ---- where the gate is not asked, and no path is found

abbrev pub plain : Standing → Standing
plain s = record s { tests = None; asks = 0; gate_failed = 0; matched = 0 }

never_rose : min (0 + 1) last_count ≤ 0 → ⊥
never_rose le = omega (arith, le)

pub count_tried : (name : List ℕ) (s : Standing) (outcome : Outcome) (s' : Standing) → s'.tests ≡ s.tests → s'.asks ≡ s.asks → s'.gate_failed ≡ s.gate_failed → s'.matched ≡ s.matched
    → Moves (plain s) outcome (plain s') → CountsText name (plain s) outcome (plain s') → IfSome s.files (λ files. ReadsIn (get files name) s.given s'.given outcome)
    → IfSome s.files (λ files. outcome ≡ outcomes.Missing → get files name ≡ None) → IfSome s.files (λ files. get files name ≡ None → IsMissingOrFailed outcome)
    → IsTrue (ends_reading outcome) ⊎ (outcome ≡ outcomes.WriteFault) → (outcome ≡ outcomes.Missing → s'.given ≡ s.given) → TriedCount name s outcome s'
count_tried name s outcome s' tests asks gate matched moves counted reads missing absent reading unread = record {
  moves = record {
    files = moves.files;
    tests = tests;
    given = moves.given;
    given_within = moves.given_within;
    matched = omega (arith, matched);
    matched_within = omega (arith, matched);
    reads = moves.reads;
    gate = omega (arith, gate);
    writes = moves.writes;
    read_fault = moves.read_fault;
    gate_fault = λ e. absurd (never_rose (moves.gate_fault e));
    write_fault = moves.write_fault;
    passed_on = moves.passed_on;
  };
  missing = missing;
  absent = absent;
  reads = reads;
  counted = record { ended = counted.ended; stats = counted.stats; ends = counted.ends; read_fault = counted.read_fault; counts = counted.counts; absent = counted.absent; writes = counted.writes };
  reading = reading;
  unread = unread;
  matched = matched;
  asks = asks;
  gate = gate;
}

-- ---- by what is done with each database

pub tried_counted : (work : WorkAsked) (sought : Sought) (query : Query) (name : List ℕ) (s : Standing) (o : Outcome) (s' : Standing) → work ≡ works.Statistics → TriedCount name s o s' → Tried (work_for work sought) query name s o s'
tried_counted work sought query name s o s' is done = subst (λ (w : WorkAsked). Tried (work_for w sought) query name s o s') (sym is) done

pub tried_searched : (work : WorkAsked) (sought : Sought) (query : Query) (name : List ℕ) (s : Standing) (o : Outcome) (s' : Standing) → work ≡ works.Search → TriedSearch sought query name s o s' → Tried (work_for work sought) query name s o s'
tried_searched work sought query name s o s' is done = subst (λ (w : WorkAsked). Tried (work_for w sought) query name s o s') (sym is) done
