use Rattle.std.proofs.Common.{rules, ap, refl, sym, ◌∙◌, subst, ℕ, List, ◌≡◌, ◌≤◌, ◌+◌, Some, Err, IsSome, arith}
use Rattle.std.specs.FinMap.{get}
use Rattle.loc_outside.specs.Causes.{Rose}
use Rattle.loc_outside.specs.Files.{Files}
use Rattle.byte_feed.proofs.Draws.{draws_then}
use Rattle.dir_reuse.specs.Faults.{at_most_itself, at_most_trans}
use Rattle.dir_reuse.specs.Stream.{HeaderReadKnown, OpensKnown}
use Rattle.tree_scan.proofs.Texts.{normal_fits}
use Rattle.tree_scan.specs.Plans.{plan_of}
use Rattle.database_update.specs.declared.fault.UpdateFault.TheVariants as faults
use Rattle.tool_words.specs.UpdatedbSeen.{seen}
use Rattle.database_update.specs.OldDatabase.{header_most, old_in}
use Rattle.database_update.specs.SettingsFiles.{both_read}
use Rattle.database_update.proofs.Opening.{drawn_none, foreign_shut, given_least, given_most, header_given, opened, unopened}
use Rattle.database_update.proofs.UpdateLemmas.{ended_early, went}
use Rattle.database_update.proofs.updating.update.Goals as goal

pub returns-in-Err-clause-does : goal.returns-in-Err-clause-does
returns-in-Err-clause-does g c =
    let f = c.in-Err.fault in
    let said = c.in-Err.ensures in
    ended_early _ _ _ _ _ _ _ f
    (record {
      settings = said.settings;
      refused = said.refused;
      memory = said.memory;
      fault = λ file was. said.fault file (ap Err was);
      in_hand = λ was. said.in_hand (ap Err was);
      given_few = said.given;
      given_most = said.given_most;
      conf_alone = said.conf_alone;
      later = said.later;
    })
    (refl, refl, refl)

pub returns-in_default-clause-does : goal.returns-in_default-clause-does
returns-in_default-clause-does g c =
    let read = c.in-Ok.ensures in
    ended_early _ _ _ _ _ _ _ faults.OutOfMemory
    (record {
      settings = refl;
      refused = λ so. absurd cc;
      memory = refl;
      fault = λ file was. absurd cc;
      in_hand = λ was. absurd cc;
      given_few = read.given;
      given_most = read.given_most;
      conf_alone = read.conf_alone;
      later = read.later;
    })
    (refl, refl, refl)

pub returns-then-not-open_old-clause-does : goal.returns-then-not-open_old-clause-does
returns-then-not-open_old-clause-does g c =
    let read = c.in-Ok.ensures in
    let did = c.store.ensures in
    let tried_open = c.open_old.ensures in
    went _ _ _ _ _ (plan_of c.in-Ok.rules) _ _ _ (record {
      accepted = read.accepted;
      root = read.ruled.0;
      fits = normal_fits c.in-Ok.rules.root read.root;
      verbose = read.ruled.1;
      reuses = λ files fs. unopened _ _ _ _ _ _ read.later (at_most_itself _) (tried_open.missing c.if-not-open_old.true files (read.files ∙ fs));
      read_least = λ files fs. omega (arith, tried_open.given, read.given_whole files fs);
      given_most = λ files fs. omega (arith, tried_open.given, read.given_most files fs);
      header_alone = λ was none files fs. omega (arith, tried_open.given, read.given_most files fs);
      foreign_read = λ files fs foreign none. omega (arith, tried_open.given, read.given_most files fs);
      reads_later = omega (arith, read.later, tried_open.later);
      stored = did.stored;
      completed = did.completed;
      ended = did.ended;
      unstored = did.unstored;
      left = did.left;
      unwritten = did.unwritten;
      begins = did.begins;
      held_back = did.held_back;
      empty = did.empty;
      found = did.found;
      exceeded = did.exceeded;
      lacking = did.lacking;
      failures = did.failures;
      asked_of = did.asked_of;
      openings = did.openings;
      quiet = did.quiet;
      same_held = λ same. ap g.P.BufferedSink.held_back same;
    })

pub returns-clause-does : goal.returns-clause-does
returns-clause-does g c =
    let read = c.in-Ok.ensures in
    let did = c.store-2.ensures in
    let looked = c.open_old.ensures in
    let header = c.open_on-old.ensures in
    let kept = did.voucher_kept in
    let plan = plan_of c.in-Ok.rules in
    let block : c.as_slice.result.now ≡ plan.block = c.as_slice.ensures ∙ c.in-Ok-conf_block.ensures.ok in
    let reads_on = kept.2 in
    let drawn = draws_then _ _ _ _ _ _ _ _ _ header.drawn reads_on.drawn in
    let named = kept.0 in
    let came = header.same in
    let back : c.reader-1.given.0 ≡ c.store-2.new.voucher.src.now = search rules in
    let failed : g.R.Source.faults c.reader-1.given.0 ≡ g.R.Source.faults c.store-2.new.voucher.src.now = ap g.R.Source.faults back in
    let read_on : g.R.Source.given c.reader-1.given.0 ≡ g.R.Source.given c.store-2.new.voucher.src.now = ap g.R.Source.given back in
    let later : g.R.Source.faults c.open_on-old.result.src.now ≤ g.R.Source.faults c.reader-1.given.0 = subst (λ (f : ℕ). g.R.Source.faults c.open_on-old.result.src.now ≤ f) (sym failed) reads_on.later in
    let found_at : (files : Files) → g.R.Reader.files c.args.reader.now ≡ Some files → IsSome (g.R.Source.left c.open_old.new.reader) × (g.R.Source.left c.open_old.new.reader ≡ get files c.args.asked.now.output.now)
    = λ files fs. looked.found c.if-not-open_old.false files (read.files ∙ fs) in
    let header_known : HeaderReadKnown plan.root plan.block (g.R.Source.left c.open_old.new.reader) c.open_on-old.result.cursor
    = subst (λ (b : List ℕ). HeaderReadKnown plan.root b (g.R.Source.left c.open_old.new.reader) c.open_on-old.result.cursor) block header.header in
    let header_most_read : (files : Files) → g.R.Reader.files c.args.reader.now ≡ Some files → (Rose (g.R.Source.faults c.args.reader.now) (g.R.Source.faults c.reader-1.given.0) → ⊥) → g.R.Source.given c.store-2.new.voucher.src.now ≡ g.R.Source.given c.open_on-old.result.src.now
    → g.R.Source.given c.reader-1.given.0 ≤ g.R.Source.given c.args.reader.now + both_read files + header_most (old_in files (seen c.args.asked.now))
    = λ files fs none same. header_given _ _ _ plan.root plan.block c.open_on-old.result.cursor _ _ _ _ _ _ _ _ _ (found_at files fs).0 (found_at files fs).1 header.drawn header.near header_known header.broke (at_most_trans _ _ _ read.later looked.later) later none (looked.given ∙ read.given_whole files fs) (read_on ∙ same) in
    went _ _ _ _ _ plan _ _ _ (record {
      accepted = read.accepted;
      root = read.ruled.0;
      fits = normal_fits c.in-Ok.rules.root read.root;
      verbose = read.ruled.1;
      reuses = λ files fs. opened _ _ _ plan c.open_on-old.result.cursor c.store-2.new.voucher.cursor _ _ _ _ (found_at files fs).0 (found_at files fs).1 (subst (λ (b : List ℕ). OpensKnown plan.root b (g.R.Source.left c.open_old.new.reader) c.open_on-old.result.cursor (g.R.Source.left c.open_on-old.result.src.now)) block header.opened)
          header.broke (at_most_trans _ _ _ read.later looked.later) header.later later (λ none. reads_on.unbroken (λ r. none (subst (λ (f : ℕ). Rose (g.R.Source.faults c.open_on-old.result.src.now) f) (sym failed) r)));
      read_least = λ files fs. given_least _ _ _ _ _ (looked.given ∙ read.given_whole files fs) (read_on ∙ drawn.count);
      given_most = λ files fs. given_most _ _ _ _ _ _ _ _ (found_at files fs).0 (found_at files fs).1 drawn.rest (looked.given ∙ read.given_whole files fs) (read_on ∙ drawn.count);
      header_alone = λ was none files fs. header_most_read files fs none (ap (λ v. g.R.Source.given v.src.now) (did.still was));
      foreign_read = λ files fs foreign none. header_most_read files fs none (drawn_none _ _ _ _ _ _ reads_on.drawn (reads_on.shut (foreign_shut _ _ plan c.open_on-old.result.cursor (found_at files fs).0 (found_at files fs).1 header_known foreign)).1);
      reads_later = at_most_trans _ _ _ (at_most_trans _ _ _ (at_most_trans _ _ _ read.later looked.later) header.later) later;
      stored = did.stored;
      completed = did.completed;
      ended = did.ended;
      unstored = did.unstored;
      left = did.left;
      unwritten = did.unwritten;
      begins = did.begins;
      held_back = did.held_back;
      empty = did.empty;
      found = did.found;
      exceeded = did.exceeded;
      lacking = did.lacking;
      failures = did.failures;
      asked_of = did.asked_of;
      openings = did.openings;
      quiet = did.quiet;
      same_held = λ same. ap g.P.BufferedSink.held_back same;
    })

pub returns-clause-files : goal.returns-clause-files
returns-clause-files g c =
    let named = c.store-2.ensures.voucher_kept.0 in
    let came = c.open_on-old.ensures.same in
    let back : c.reader-1.given.0 ≡ c.store-2.new.voucher.src.now = search rules in
    ap g.R.Reader.files back ∙ g.met.R.Reader.keeps_files _ _ (g.met.R.Source.keeps_on _ _ _ c.open_on-old.ensures.kept c.store-2.ensures.voucher_kept.1)
    ∙ c.open_old.ensures.files ∙ c.in-Ok.ensures.files
