-- What a search did with the file of a name.
use Rattle.std.proofs.Common.{◌≡◌, ℕ, ◌≤◌, ◌<◌, List, Option, Some, None, Ok, IfSome, refl, subst, ◌∙◌, arith}
use Rattle.std.specs.Prelude.{IsSome}
use Rattle.std.specs.FinMap as map
use Rattle.loc_outside.specs.Causes.{Rose}
use Rattle.loc_outside.specs.Files.{Files}
use Rattle.loc_outside.specs.Outside.{OpensAs}
use Rattle.loc_outside.specs.declared.traits.bytes.Opened.{Opened}
use Rattle.loc_outside.specs.declared.traits.bytes.Opened.TheVariants.{Found, Missing}
use Rattle.any_db.specs.Formats.{contents}
use Rattle.locate_engine.specs.Files.{ReadsWithin, SearchesFile, SearchesFound, SearchesNamed, SearchesPart}
use Rattle.locate_engine.specs.Searched.{EndsWithin}
use Rattle.locate_engine.specs.Sight.{MeetsLimit, Moves, Sight, stand_in}
use Rattle.locate_engine.specs.Sought.{Sought}
use Rattle.locate_engine.specs.declared.outcome.Outcome.{Outcome}
use Rattle.locate_engine.specs.declared.outcome.Outcome.TheVariants as outcomes
use Rattle.locate_engine.specs.declared.query.Query.{Query}
use Rattle.locate_engine.proofs.Endings.{off_on}
use Rattle.locate_engine.proofs.Opened.{unopened_file, whole_file}
use Rattle.locate_engine.proofs.Told.{if_found, if_missing}

-- ---- of a file that was opened

module _ (sought : Sought) (query : Query) (before : Sight) (outcome : Outcome) (after : Sight) where
  file_searched : (file : List ℕ) → SearchesPart sought query file before outcome after → EndsWithin sought.bound (contents file) before.steps after.steps outcome → ReadsWithin file before.given after.given outcome
      → (outcome ≡ outcomes.Missing → ⊥) → Moves before outcome after → SearchesFile sought query file before outcome after
  file_searched file part ended read there moves = record {
    exact = λ none. whole_file sought.wanted sought.bound query before.tests (stand_in before) (stand_in after) before.steps after.steps outcome file before.given after.given part
        (λ e. none.0 (moves.reads.fault e)) (λ e. none.1 (moves.gate_fault e)) (λ e. none.2 (moves.write_fault e));
    part = part;
    ended = ended;
    read = read;
    there = there;
  }

  pub left_searched : (left : Option (List ℕ)) → IfSome left (λ file. SearchesPart sought query file before outcome after) → IfSome left (λ file. EndsWithin sought.bound (contents file) before.steps after.steps outcome)
      → IfSome left (λ file. ReadsWithin file before.given after.given outcome) → (outcome ≡ outcomes.Missing → ⊥) → Moves before outcome after → IfSome left (λ file. SearchesFile sought query file before outcome after)
  left_searched None part ended read there moves = tt
  left_searched (Some file) part ended read there moves = file_searched file part ended read there moves

-- ---- by its name

-- what is seen once a file was asked for by its name
abbrev pub asked_for : Sight → Option Files → ℕ → ℕ → Sight
asked_for at files given failed = record at { files = files; given = given; reads_failed = failed }

module _ (sought : Sought) (query : Query) (name : List ℕ) (before : Sight) (files : Option Files) (given failed : ℕ) (same_files : files ≡ before.files) (same_given : given ≡ before.given) (later : before.reads_failed ≤ failed) where
  -- the file was found and then searched
  file_from : (outcome : Outcome) (after : Sight) (file : List ℕ) → SearchesFile sought query file (asked_for before files given failed) outcome after → SearchesFile sought query file before outcome after
  file_from outcome after file done = record {
    exact = λ none. done.exact ((λ rose. none.0 (omega (arith, later, rose))), none.1, none.2);
    part = subst (λ (n : ℕ). SearchesPart sought query file (asked_for before files n failed) outcome after) same_given done.part;
    ended = done.ended;
    read = subst (λ (n : ℕ). ReadsWithin file n after.given outcome) same_given done.read;
    there = done.there;
  }

  there_searched : (outcome : Outcome) (after : Sight) (found : Option (List ℕ)) → IsSome found → IfSome found (λ file. SearchesFile sought query file (asked_for before files given failed) outcome after)
      → SearchesFound sought query found before outcome after
  there_searched outcome after None some done = absurd (off_on some)
  there_searched outcome after (Some file) some done = file_from outcome after file done

  moves_from : (outcome : Outcome) (after : Sight) → Moves (asked_for before files given failed) outcome after → Moves before outcome after
  moves_from outcome after moves = record {
    files = moves.files ∙ same_files;
    tests = moves.tests;
    reads = record {
      gives = omega (arith, same_given, moves.reads.gives);
      within = omega (arith, same_given, moves.reads.within);
      later = omega (arith, later, moves.reads.later);
      fault = λ e. omega (arith, later, moves.reads.fault e);
    };
    matched = moves.matched;
    matched_within = moves.matched_within;
    steps = moves.steps;
    asks = moves.asks;
    gate = moves.gate;
    writes = moves.writes;
    gate_fault = moves.gate_fault;
    write_fault = moves.write_fault;
  }

  pub named_found : (outcome : Outcome) (after : Sight) (left : Option (List ℕ)) (o : Opened) → o ≡ Found → OpensAs before.files name (Ok o) left
      → IfSome left (λ file. SearchesFile sought query file (asked_for before files given failed) outcome after) → (outcome ≡ outcomes.Missing → ⊥) → MeetsLimit query.limit outcome after.matched
      → Moves (asked_for before files given failed) outcome after → SearchesNamed sought query name before outcome after
  named_found outcome after left o found opened done there limit moves = record {
    idle = λ e. absurd (there e);
    found = if_found before.files name left (λ there. SearchesFound sought query there before outcome after) o found opened (λ some. there_searched outcome after left some done);
    limit = limit;
    moves = moves_from outcome after moves;
  }

  -- nothing was searched
  module _ (below : IfSome query.limit (λ limit. before.matched < limit)) where
    idle_limit : (outcome : Outcome) → (outcome ≡ outcomes.LimitReached → ⊥) → MeetsLimit query.limit outcome before.matched
    idle_limit outcome early = record { reached = λ e. absurd (early e); under = λ _. below }

    idle_moves : (outcome : Outcome) → (outcome ≡ outcomes.ReadFault → Rose before.reads_failed failed) → (outcome ≡ outcomes.GateFault → ⊥) → (outcome ≡ outcomes.WriteFault → ⊥) → Moves before outcome (asked_for before files given failed)
    idle_moves outcome fault gate write = record {
      files = same_files;
      tests = refl;
      reads = record { gives = omega (arith, same_given); within = omega (arith, same_given); later = later; fault = fault };
      matched = omega arith;
      matched_within = omega arith;
      steps = omega arith;
      asks = omega arith;
      gate = omega arith;
      writes = omega arith;
      gate_fault = λ e. absurd (gate e);
      write_fault = λ e. absurd (write e);
    }

    -- there is no file of the name
    pub named_missing : (left : Option (List ℕ)) (o : Opened) → o ≡ Missing → OpensAs before.files name (Ok o) left → SearchesNamed sought query name before outcomes.Missing (asked_for before files given failed)
    named_missing left o missing opened = record {
      found = if_missing before.files name left (λ there. SearchesFound sought query there before outcomes.Missing (asked_for before files given failed)) o missing opened (record { ended = refl; idle = (same_given, refl) });
      idle = λ e. (same_given, refl);
      limit = idle_limit outcomes.Missing (λ e. absurd cc);
      moves = idle_moves outcomes.Missing (λ e. absurd cc) (λ e. absurd cc) (λ e. absurd cc);
    }

    -- the reader failed
    failed_found : (there : Option (List ℕ)) → Rose before.reads_failed failed → SearchesFound sought query there before outcomes.ReadFault (asked_for before files given failed)
    failed_found None rose = record { ended = refl; idle = (same_given, refl) }
    failed_found (Some file) rose = record {
      exact = λ none. absurd (none.0 rose);
      part = unopened_file sought.wanted sought.bound query before.tests (stand_in before) before.steps below file before.given given same_given;
      ended = record { ends = λ by. absurd (off_on by); within = omega arith };
      read = record { most = omega (arith, same_given); whole = λ e. absurd cc; too_large = λ e. absurd cc };
      there = λ e. absurd cc;
    }

    failed_in : (known : Option Files) → Rose before.reads_failed failed → IfSome known (λ told. SearchesFound sought query (map.get told name) before outcomes.ReadFault (asked_for before files given failed))
    failed_in None rose = tt
    failed_in (Some told) rose = failed_found (map.get told name) rose

    pub named_failed : Rose before.reads_failed failed → SearchesNamed sought query name before outcomes.ReadFault (asked_for before files given failed)
    named_failed rose = record {
      found = failed_in before.files rose;
      idle = λ e. absurd cc;
      limit = idle_limit outcomes.ReadFault (λ e. absurd cc);
      moves = idle_moves outcomes.ReadFault (λ _. rose) (λ e. absurd cc) (λ e. absurd cc);
    }
