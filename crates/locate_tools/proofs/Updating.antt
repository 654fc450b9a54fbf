-- Runs of `updatedb`, from what an update does.
use Rattle.std.specs.Prelude.{IfErr}
use Rattle.std.proofs.Common.{◌≡◌, ℕ, Bool, List, Option, Result, Ok, Err, ◌⊎◌, inl, inr, refl, arith}
use Rattle.path_order.specs.Stamp.{Moment}
use Rattle.loc_outside.specs.Held.{Held}
use Rattle.loc_outside.specs.Trees.{Dirs}
use Rattle.tool_words.specs.Updatedb.{UpdatedbAsked}
use Rattle.tree_scan.specs.Plan.{Plan}
use Rattle.tree_scan.specs.Records.{Record}
use Rattle.tree_scan.specs.declared.rules.Counts.{Counts}
use Rattle.database_update.specs.Scans.{Left}
use Rattle.database_update.specs.Updates.{AfterFault, Around, Bounded, Same, UpdateDoes}
use Rattle.database_update.specs.declared.fault.UpdateFault.{UpdateFault}
use Rattle.database_update.specs.declared.fault.UpdateFault.TheVariants as faults
use Rattle.database_update.proofs.UpdateLemmas.{ended_early}
use Rattle.locate_tools.specs.declared.answer.Cause.{Cause}
use Rattle.locate_tools.specs.declared.answer.Cause.TheVariants as causes
use Rattle.locate_tools.specs.UpdatedbRun.{UpdatedbRun, same_in}

-- ---- what is just as it was, in other words

wrote_as : {H S S' L : Type 0} → (S → S') → H × S ⊎ L → H × S' ⊎ L
wrote_as same (inl (held, kept)) = inl (held, same kept)
wrote_as same (inr lines) = inr lines

left_as : (fault : UpdateFault) (records : List Record) (all : Bool) (name : List ℕ) (now : Moment) (dirs : Dirs) (plan : Plan) (h h' : Option Held) (e e' : Option (List ℕ)) (S S' : Type 0) → (S → S') → Left fault records all name now dirs plan h h' e e' S → Left fault records all name now dirs plan h h' e e' S'
left_as fault records all name now dirs plan h h' e e' S S' same left = record {
  leaves = left.leaves;
  echo_part = left.echo_part;
  wrote = wrote_as same left.wrote;
  stopped = left.stopped;
}

fault_as : (asked : UpdatedbAsked) (now : Moment) (a a' : Around) (s s' : Same) → (s.tree → s'.tree) → (s.output → s'.output) → (s.out → s'.out) → (fault : UpdateFault) → AfterFault asked now a a' s fault → AfterFault asked now a a' s' fault
fault_as asked now a a' s s' tree output out fault after = record {
  unstored = after.unstored;
  left = λ files dirs plan fs ds made honest. left_as fault _ _ asked.output now dirs plan a.held a'.held a.taken a'.taken s.out s'.out out (after.left files dirs plan fs ds made honest);
  unwritten = λ files dirs plan fs ds made was none. let kept = after.unwritten files dirs plan fs ds made was none in (kept.0, out kept.1);
  begins = after.begins;
  early = λ early. let kept = after.early early in (tree kept.0, output kept.1, out kept.2);
  empty = λ was. let kept = after.empty was in (kept.0, out kept.1);
  settings_alone = after.settings_alone;
  settings_read = after.settings_read;
  header_alone = after.header_alone;
}

bounded_as : (asked : UpdatedbAsked) (a a' : Around) (s s' : Same) → (s.tree → s'.tree) → (s.output → s'.output) → (s.out → s'.out) → Bounded asked a a' s → Bounded asked a a' s'
bounded_as asked a a' s s' tree output out b = record {
  unready = λ files fault fs refused. let kept = b.unready files fault fs refused in (tree kept.0, output kept.1, out kept.2);
  quiet = λ quiet. out (b.quiet quiet);
  passed_on = b.passed_on;
  given_most = b.given_most;
  foreign_read = b.foreign_read;
  conf_alone = b.conf_alone;
  refused_read = b.refused_read;
  asked_of = b.asked_of;
  openings = b.openings;
  reads_later = b.reads_later;
}

err_as : (r : Result Counts UpdateFault) (P Q : UpdateFault → Type 0) → ((fault : UpdateFault) → P fault → Q fault) → IfErr r P → IfErr r Q
err_as (Ok counts) P Q f h = tt
err_as (Err fault) P Q f h = f fault h

pub does_as : (asked : UpdatedbAsked) (now : Moment) (a a' : Around) (s s' : Same) (r : Result Counts UpdateFault) → (s.tree → s'.tree) → (s.output → s'.output) → (s.out → s'.out) → UpdateDoes asked now a a' s r → UpdateDoes asked now a a' s' r
does_as asked now a a' s s' r tree output out does = record {
  stored = does.stored;
  after_fault = err_as r _ _ (fault_as asked now a a' s s' tree output out) does.after_fault;
  caused = does.caused;
  required = does.required;
  failures = does.failures;
  bounded = bounded_as asked a a' s s' tree output out does.bounded;
}

-- ---- where there was no memory for the words, nothing was done

does_none : (asked : UpdatedbAsked) (now : Moment) (a : Around) → UpdateDoes asked now a a (same_in a a) (Err faults.OutOfMemory)
does_none asked now a =
    ended_early asked now a a.files a.given a.reads_failed (same_in a a) faults.OutOfMemory
    (record {
      settings = refl;
      refused = λ so. absurd cc;
      memory = refl;
      fault = λ file was. absurd cc;
      in_hand = λ was. absurd cc;
      given_few = omega arith;
      given_most = λ files fs. omega arith;
      conf_alone = λ files fault fs refused. omega arith;
      later = omega arith;
    })
    ((refl, refl, refl), (refl, refl, refl), (refl, refl, refl))

pub run_none : (asked : UpdatedbAsked) (now : Moment) (a : Around) (cause : Cause) → cause ≡ causes.OutOfMemory → UpdatedbRun asked now a a cause
run_none asked now a cause is = record { result = Err faults.OutOfMemory; ended = is; does = does_none asked now a }
